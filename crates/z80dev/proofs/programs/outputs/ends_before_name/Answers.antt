use Rattle.std.proofs.Common.{◌∙◌, ap, sym}
use Rattle.std.specs.Option.{option_copied, option_map_or}
use Rattle.std.specs.Path.{slash}
use Rattle.std.specs.Prelude.{◌==◌, true}
use Rattle.z80dev.specs.Outputs.{ends_before_name}
use Rattle.z80dev.proofs.programs.outputs.ends_before_name.Goals as goal

pub returns-in-Some : goal.returns-in-Some
returns-in-Some c = ap (λ found. option_map_or (λ byte. byte == slash) found true) (ap option_copied (sym c.in-Some.is) ∙ c.last.ensures.value) ∙ ap ends_before_name c.as_bytes.ensures.value

pub returns-in-None : goal.returns-in-None
returns-in-None c = ap (λ found. option_map_or (λ byte. byte == slash) found true) (ap option_copied (sym c.in-None.is) ∙ c.last.ensures.value) ∙ ap ends_before_name c.as_bytes.ensures.value
