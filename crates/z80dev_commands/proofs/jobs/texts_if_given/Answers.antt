use Rattle.std.proofs.Common.{◌∙◌, [], ap, map, sym}
use Rattle.std.specs.Prelude.{unwrap_or}
use Rattle.std.proofs.lemmas.Result.{IfOk-weaker}
use Rattle.clap.proofs.WalkLemmas.{raw_values-rows}
use Rattle.clap.specs.Words.{found_of}
use Rattle.z80dev_commands.proofs.jobs.texts_if_given.Goals as goal

pub returns-in-Some : goal.returns-in-Some
returns-in-Some c =
    let all = sym (raw_values-rows (found_of c.args.found.now) c.args.id.now) ∙ sym c.in-Some.ensures in
    IfOk-weaker c.to_vec.result _ _ (λ v same. ap (λ o. unwrap_or o []) all ∙ ap (map (λ s. s.now)) (sym (same (λ x y e. e)))) c.to_vec.ensures.items_if_clones_equal

pub returns-in-None : goal.returns-in-None
returns-in-None c =
    ap (λ o. unwrap_or o []) (sym (raw_values-rows (found_of c.args.found.now) c.args.id.now) ∙ sym c.in-None.ensures) ∙ ap (map (λ s. s.now)) (sym c.new.ensures.items)
