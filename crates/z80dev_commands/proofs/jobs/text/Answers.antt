use Rattle.std.proofs.Common.{◌∙◌, ap, is_some, sym}
use Rattle.std.specs.Option.{option_map}
use Rattle.clap.proofs.CallerLemmas.{some_of_text}
use Rattle.clap.proofs.WalkLemmas.{first_value-rows}
use Rattle.clap.specs.Words.{found_of}
use Rattle.z80dev_commands.proofs.jobs.text.Goals as goal

pub unwrap-requires : goal.unwrap-requires
unwrap-requires c = some_of_text _ c.get_str.result _ c.get_str.ensures (ap (λ o. is_some o) (first_value-rows (found_of c.args.found.now) c.args.id.now) ∙ c.requires)

pub returns : goal.returns
returns c = sym (first_value-rows (found_of c.args.found.now) c.args.id.now) ∙ sym c.get_str.ensures ∙ ap (option_map (λ s. s.now)) c.unwrap.ensures
