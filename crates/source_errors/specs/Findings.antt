-- An error of a source, as definitions see it.
use Rattle.std.specs.Prelude.{ℕ, List, Option, None}
use Rattle.std.specs.Option.{option_map}
use Rattle.asm_module.specs.declared.fault.Why.{Why}
use Rattle.asm_text.specs.Lines.{Numbered}
use Rattle.source_errors.specs.declared.finding.Finding as code

-- an error: the line with its number, why, and the name that it is about, if it is about one
pub record Finding : Type 0 where
  pub line : Numbered
  pub why : Why
  pub name : Option (List ℕ)

-- a name that is defined twice is only for the message: the line itself tells which names it defines
abbrev pub name_told : Why → Option (List ℕ) → Option (List ℕ)
name_told Why.Duplicate name = None
name_told why name = name

abbrev pub finding_of : code.Finding → Finding
finding_of f = record { line = record { number = f.number; text = f.text.items }; why = f.why; name = name_told f.why (option_map (λ name. name.items) f.name) }
