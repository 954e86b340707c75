-- The parsed lines of a source, in order.
use Rattle.std.specs.Prelude.{ℕ, Bool, true, false, List, Some, map}
use Rattle.std.specs.List.{enumerate_from}
use Rattle.asm_spell.specs.Line as line
use Rattle.asm_spell.specs.Line.{Body, Line}
use Rattle.asm_names.specs.declared.kind.SourceLine.{SourceLine}

-- a parsed line, and the number that it bears
pub record Taken : Type 0 where
  pub number : ℕ
  pub line : Line

abbrev pub taken_of : SourceLine → Taken
taken_of l = record { number = l.number; line = line.line_of l.line }

abbrev pub lines_of : List SourceLine → List Taken
lines_of lines = map taken_of lines

-- each line with its index, which is how many come before it
abbrev pub placed : List Taken → List (ℕ × Taken)
placed lines = enumerate_from 0 lines

-- whether a word makes a statement, as far as its own line tells; DS 0 does too
abbrev pub is_statement : Body → Bool
is_statement (line.Public list) = false
is_statement (line.External list) = false
is_statement (line.Origin e) = false
is_statement (line.End entry) = false
is_statement line.Z80 = false
is_statement _ = true

abbrev pub has_statement : Line → Bool
has_statement (line.Statement label (Some body)) = is_statement body
has_statement _ = false
