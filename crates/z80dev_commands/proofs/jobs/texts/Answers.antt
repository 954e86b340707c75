use Rattle.std.proofs.Common.{◌∙◌, Some, ap, is_some, map, sym}
use Rattle.std.specs.Option.{option_map}
use Rattle.std.proofs.lemmas.Result.{IfOk-weaker}
use Rattle.clap.proofs.CallerLemmas.{some_of_text}
use Rattle.clap.proofs.WalkLemmas.{raw_values-rows}
use Rattle.clap.specs.Words.{found_of}
use Rattle.z80dev_commands.proofs.jobs.texts.Goals as goal

pub unwrap-requires : goal.unwrap-requires
unwrap-requires c = some_of_text _ c.get_strs.result _ c.get_strs.ensures (ap (λ o. is_some o) (raw_values-rows (found_of c.args.found.now) c.args.id.now) ∙ c.requires)

pub returns : goal.returns
returns c =
    let all = sym (raw_values-rows (found_of c.args.found.now) c.args.id.now) ∙ sym c.get_strs.ensures ∙ ap (option_map (λ s. map (λ v. v.now) s.now)) c.unwrap.ensures in
    IfOk-weaker c.to_vec.result _ _ (λ v same. all ∙ ap (λ xs. Some (map (λ s. s.now) xs)) (sym (same (λ x y e. e)))) c.to_vec.ensures.items_if_clones_equal
