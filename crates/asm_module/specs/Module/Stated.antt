-- What `state_lines` answers for lines.
use Rattle.std.specs.Prelude.{◌≡◌, ℕ, Bool, List, Option, Some, None, Result, Ok, Err, map}
use Rattle.std.specs.List.{filter_map}
use Rattle.std.specs.Option.{option_map}
use Rattle.asm_expr.specs.Names.{Table}
use Rattle.asm_spell.specs.Line as line
use Rattle.asm_spell.specs.Line.{Line}
use Rattle.asm_names.specs.Faults.{first}
use Rattle.asm_names.specs.Lines.{Taken, placed}
use Rattle.asm_names.specs.Names.{Names}
use Rattle.asm_names.specs.Layout.{Layout, next_at}
use Rattle.zmo_object.specs.Modules.{ModuleStatement, statement_of}
use Rattle.asm_module.specs.declared.statements.fault.StateFault.{StateFault}
use Rattle.asm_module.specs.declared.statements.stating.Stated.{Stated}
use Rattle.asm_module.specs.Module.Faults.{body_fault}
use Rattle.asm_module.specs.Module.Statements.{line_statement}

-- the table of names at a line: `$` is the next statement after the lines before
abbrev pub table_at_line : Layout → Table → ℕ → Table
table_at_line layout t at = record t { here = next_at layout at }

abbrev pub statement_fault : Names → Table → Line → Option StateFault
statement_fault names t (line.Statement label (Some body)) = body_fault names t body
statement_fault names t _ = None

-- The first error of all lines, each judged by itself, with the number of its line.
abbrev pub first_statement_fault : Names → Table → Layout → List Taken → Option (ℕ × StateFault)
first_statement_fault names t layout lines = first (map (λ l. option_map (λ why. (l.1.number, why)) (statement_fault names (table_at_line layout t l.0) l.1.line)) (placed lines))

-- the statements of lines, each with the number of its line
abbrev pub numbered_statements : Bool → Table → Layout → List Taken → List (ℕ × ModuleStatement)
numbered_statements grow t layout lines = filter_map (λ l. option_map (λ s. (l.1.number, s)) (line_statement grow (table_at_line layout t l.0) l.1.line)) (placed lines)

-- The answer is the statements of the lines if no line has an error, and otherwise the first error. If memory ran out, nothing is claimed.
abbrev pub AreStated : Bool → Names → Table → Layout → List Taken → Result Stated (ℕ × StateFault) → Type 0
AreStated grow names t layout lines (Ok s) =
    (first_statement_fault names t layout lines ≡ None)
    × (map statement_of s.statements.items ≡ map (λ n. n.1) (numbered_statements grow t layout lines))
    × (s.lines.items ≡ map (λ n. n.0) (numbered_statements grow t layout lines))
AreStated grow names t layout lines (Err (number, StateFault.NoMemory)) = Unit {0}
AreStated grow names t layout lines (Err (number, why)) = first_statement_fault names t layout lines ≡ Some (number, why)
