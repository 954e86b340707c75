-- What the code has of the lines so far, in terms of the definitions.
use Rattle.std.specs.Prelude.{◌≡◌, ◌||◌, ℕ, Bool, true, false, List, [], ◌∷◌, ◌++◌, Option, Some, None, Result, Ok, Err, is_some, length, map}
use Rattle.std.specs.List.{list_any}
use Rattle.std.specs.Option.{option_map, option_to_list}
use Rattle.std.specs.Str.{bytes_eq}
use Rattle.asm_spell.specs.Line as line
use Rattle.asm_spell.specs.Line.{Line, line_of}
use Rattle.asm_spell.specs.declared.line.Line as code
use Rattle.asm_text.specs.Lines.{Numbered}
use Rattle.asm_names.specs.declared.kind.Kind.{Kind}
use Rattle.asm_names.specs.declared.kind.SourceLine.{SourceLine}
use Rattle.asm_names.specs.Lines.{Taken, lines_of, taken_of}
use Rattle.asm_names.specs.declared.fault.NameFault.{NameFault}
use Rattle.asm_names.specs.Faults.{first}
use Rattle.asm_names.specs.Names.{Names, kind_of_name, names}
use Rattle.asm_macro.specs.declared.whole.ExpandedLine.{ExpandedLine}
use Rattle.asm_module.specs.Whys.{name_why}
use Rattle.asm_module.specs.declared.fault.Why.{Why}
use Rattle.asm_module.specs.declared.line_fault.LineFault.{LineFault}
use Rattle.source_errors.specs.declared.counting.Counting.{Counting}
use Rattle.source_errors.specs.declared.counting.Origin.{Origin}
use Rattle.source_errors.specs.Counted.{Counted, after_colon, lines_counted, counts_as, early, meant_as, takens}
use Rattle.source_errors.specs.Findings.{finding_of}

-- what a line parses as, in the terms of the definitions
abbrev pub read_of : Result code.Line LineFault → Result Line LineFault
read_of (Ok l) = Ok (line_of l)
read_of (Err why) = Err why

-- a name is something, and no external
abbrev pub is_other : Option Kind → Bool
is_other None = false
is_other (Some Kind.External) = false
is_other (Some kind) = true

-- a name is this label
abbrev pub is_this : Option (List ℕ) → List ℕ → Bool
is_this None name = false
is_this (Some label) name = bytes_eq name label

-- the label of a line is there already
abbrev pub label_known : Names → Option (List ℕ) → Bool
label_known names None = false
label_known names (Some label) = is_some (kind_of_name names label)

-- An external clashes with the names before it, or with the label of its line.
abbrev pub external_clashes : Names → Option (List ℕ) → List ℕ → Bool
external_clashes names label name = is_other (kind_of_name names name) || is_this label name

abbrev pub body_clashes : Names → Option (List ℕ) → Option line.Body → Bool
body_clashes names label (Some (line.External externals)) = list_any (external_clashes names label) externals
body_clashes names label _ = false

-- the lines so far
abbrev pub counted_of : List Origin → List SourceLine → List Counted
counted_of (o ∷ os) (l ∷ ls) = record { from = record { number = l.number; text = o.text.items }; is_read = o.is_read; taken = taken_of l } ∷ counted_of os ls
counted_of _ _ = []

abbrev pub counted_in : Counting → List Counted
counted_in c = counted_of c.origins.items c.lines.items

-- The table has the names of the lines so far.
pub record IsCounting (c : Counting) : Type 0 where
  pub many : length c.origins.items ≡ length c.lines.items
  pub table : c.table ≡ names (lines_of c.lines.items)

abbrev pub numbered_of : ExpandedLine → Numbered
numbered_of l = record { number = l.number; text = l.text.items }

-- A line was taken: it counts as it does after those before it, and its error was kept.
pub record Takes (l : Numbered) (old new : Counting) : Type 0 where
  pub sound : IsCounting new
  pub lines : counted_in new ≡ counted_in old ++ lines_counted (counted_in old) l
  pub findings : map finding_of new.findings.items ≡ map finding_of old.findings.items ++ option_to_list (early (takens (counted_in old)) l)

-- A line was appended as which this one counts, if there is one.
pub record Appends (from : Numbered) (is_read : Bool) (taken : Option Taken) (old new : Counting) : Type 0 where
  pub sound : IsCounting new
  pub lines : counted_in new ≡ counted_in old ++ option_to_list (option_map (λ t. record { from = from; is_read = is_read; taken = t }) taken)
  pub findings : new.findings ≡ old.findings

-- A line with this error was taken.
pub record Refuses (l : Numbered) (why : Why) (name : Option (List ℕ)) (is_read : Bool) (old new : Counting) : Type 0 where
  pub sound : IsCounting new
  pub lines : counted_in new ≡ counted_in old ++ option_to_list (option_map (λ t. record { from = l; is_read = is_read; taken = t })
      (first (counts_as (lines_of old.lines.items) l.number (meant_as l.text) ∷ counts_as (lines_of old.lines.items) l.number (after_colon l.text) ∷ [])))
  pub findings : map finding_of new.findings.items ≡ map finding_of old.findings.items ++ record { line = l; why = why; name = name } ∷ []

-- an error of a name as one of a source; None if memory ran out
abbrev pub why_of : NameFault → Option Why
why_of NameFault.NoMemory = None
why_of why = Some (name_why why)
