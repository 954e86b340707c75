-- Which statements lines have, by size, and where each line is among them.
-- In words: docs/LANGUAGE.md, section 'Directives'.
use Rattle.std.specs.Prelude.{Bool, true, List, Option, Some, None, if◌then◌else◌, is_some, length, map, take}
use Rattle.std.specs.List.{filter_map}
use Rattle.std.specs.Option.{option_map}
use Rattle.z80_instr.specs.declared.Branch.{Branch}
use Rattle.asm_expr.specs.Types.{Statement}
use Rattle.asm_expr.specs.Names.{Table, found}
use Rattle.asm_spell.specs.Few.{IsFew}
use Rattle.asm_spell.specs.Line as line
use Rattle.asm_spell.specs.Line.{Body, Line}
use Rattle.asm_names.specs.Lines.{Taken, placed}
use Rattle.asm_stmt.specs.Made.{ref_of}
use Rattle.asm_stmt.specs.Sized.{sized}
use Rattle.asm_names.specs.Layout.{Layout}

-- With --grow, a JR to a label or an external is a relaxable jump.
abbrev pub may_grow : Bool → Table → Body → Statement → Statement
may_grow true t (line.Short (Branch.Relative condition) target) s = if is_some (ref_of (found t target)) then Statement.Relaxable else s
may_grow grow t body s = s

-- the size of a line's statement, if the line has one
abbrev pub line_sized : Bool → Table → Line → Option Statement
line_sized grow t (line.Statement label (Some body)) = option_map (may_grow grow t body) (sized t body)
line_sized grow t _ = None

abbrev pub statements : Bool → Table → List Taken → List Statement
statements grow t lines = filter_map (λ l. line_sized grow t l.line) lines

-- The sizes of the statements of all lines, and for each line how many statements come before it.
abbrev pub laid : Bool → Table → List Taken → Layout
laid grow t lines = record { next = map (λ l. length (statements grow t (take l.0 lines))) (placed lines); statements = statements grow t lines }

-- if the line is DB or DW, it makes 1 to 65,535 bytes
abbrev pub IsFewIn : Line → Type 0
IsFewIn (line.Statement label (Some body)) = IsFew body
IsFewIn _ = Unit {0}

abbrev pub HasFew : Taken → Type 0
HasFew l = IsFewIn l.line
