-- The errors of lines once their names are known: of EQU lines, and of the others.
use Rattle.std.specs.Prelude.{ℕ, not, List, [], ◌∷◌, Option, Some, None, if◌then◌else◌, filter, is_none, map}
use Rattle.std.specs.List.{enumerate_from, flat_map}
use Rattle.std.specs.Option.{option_map}
use Rattle.asm_text.specs.Lines.{Numbered}
use Rattle.asm_spell.specs.Line as line
use Rattle.asm_spell.specs.Line.{Line}
use Rattle.asm_names.specs.Circles.{names_in}
use Rattle.asm_names.specs.Faults.{first}
use Rattle.asm_names.specs.Layout.{layout_of}
use Rattle.asm_names.specs.Lines.{Taken}
use Rattle.asm_names.specs.Meanings.{equ_line_fault, name_meanings}
use Rattle.asm_names.specs.Names.{Names, kind_of_name, names}
use Rattle.asm_module.specs.declared.statements.outlining.Outline.{Outline}
use Rattle.asm_module.specs.Module.Faults.{is_label, passed_on, used}
use Rattle.asm_module.specs.Module.Stated.{statement_fault, table_at_line}
use Rattle.asm_module.specs.Outlines.{circle_of}
use Rattle.asm_module.specs.Whys.{equ_why, state_why}
use Rattle.asm_module.specs.declared.fault.Why.{Why}
use Rattle.source_errors.specs.Counted.{Counted, takens}
use Rattle.source_errors.specs.Findings.{Finding, name_told}

-- the names that a line uses, from left to right
abbrev pub line_used : Line → List (List ℕ)
line_used (line.Equ name e) = names_in e
line_used (line.Statement label (Some body)) = used body
line_used _ = []

-- the names that a line passes on, which have to be labels
abbrev pub line_passes : Line → List (List ℕ)
line_passes (line.Statement label (Some body)) = passed_on body
line_passes _ = []

abbrev pub equ_name : Line → Option (List ℕ)
equ_name (line.Equ name e) = Some name
equ_name _ = None

-- The names that an error of a line is about, one error for each: all that are not defined, all that are not labels, or the name of an EQU
-- that leads back to itself. Any other error is about no name.
abbrev pub about : Names → Line → Why → List (Option (List ℕ))
about names l Why.Undefined = map Some (filter (λ name. is_none (kind_of_name names name)) (line_used l))
about names l Why.PublicNotLabel = map Some (filter (λ name. not (is_label (kind_of_name names name))) (line_passes l))
about names l Why.EquCircle = equ_name l ∷ []
about names l why = None ∷ []

-- the error of line k of these, given the outline of all of them
abbrev pub late_why : List Taken → Outline → ℕ → Line → Option Why
late_why lines o k l = first (
    option_map equ_why (equ_line_fault (names lines) (circle_of o) (layout_of o.layout) (name_meanings (names lines) lines (circle_of o) (layout_of o.layout)) k l)
    ∷ option_map state_why (statement_fault (names lines) (table_at_line (layout_of o.layout) o.settled.names k) l)
    ∷ [])

-- the errors of a line, one for each name that they are about
abbrev pub late_in : Names → Numbered → Line → Option Why → List Finding
late_in names from l None = []
late_in names from l (Some why) = map (λ name. record { line = from; why = why; name = name_told why name }) (about names l why)

-- the errors of a line, if it can be parsed
abbrev pub late : List Taken → Outline → ℕ × Counted → List Finding
late lines o (k, c) = if c.is_read then late_in (names lines) c.from c.taken.line (late_why lines o k c.taken.line) else []

-- The errors of the lines, in their order.
abbrev pub late_errors : List Counted → Outline → List Finding
late_errors counted o = flat_map (late (takens counted) o) (enumerate_from 0 counted)
