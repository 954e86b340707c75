-- Lines that are judged one after the other, as the code does.
use Rattle.std.specs.Prelude.{◌≡◌, ◌++◌, ℕ, Bool, List, Option, Some, None, Result, Ok, Err, map}
use Rattle.std.specs.Option.{option_map, option_to_list}
use Rattle.asm_expr.specs.Names.{Table}
use Rattle.asm_spell.specs.declared.fault.StmtFault.{StmtFault}
use Rattle.asm_spell.specs.Line.{Body, Line}
use Rattle.asm_names.specs.Lines.{Taken}
use Rattle.asm_names.specs.Names.{Names}
use Rattle.asm_stmt.specs.Made.{made}
use Rattle.zmo_object.specs.declared.module.statement.Statement as code
use Rattle.zmo_object.specs.Modules.{ModuleStatement, statement_of}
use Rattle.asm_module.specs.declared.statements.fault.StateFault.{StateFault}
use Rattle.asm_module.specs.declared.statements.stating.Stated.{Stated}
use Rattle.asm_module.specs.Module.Faults.{body_fault}
use Rattle.asm_module.specs.Module.Judged.{Judges}
use Rattle.asm_module.specs.Module.Stated.{statement_fault}
use Rattle.asm_module.specs.Module.Statements.{line_statement, of_made}

-- an error of values, as an error of a line
abbrev pub of_values : StmtFault → StateFault
of_values StmtFault.NoMemory = StateFault.NoMemory
of_values why = StateFault.Stmt why

abbrev pub JudgesBody : Bool → Names → Table → Body → Result (Option code.Statement) StateFault → Type 0
JudgesBody grow names t body r = Judges (body_fault names t body) (of_made grow (made t body)) r

-- the statement of a line with the line's number, if the line has a statement
abbrev pub stated : Bool → Table → Taken → List (ℕ × ModuleStatement)
stated grow t l = option_to_list (option_map (λ s. (l.number, s)) (line_statement grow t l.line))

-- What reading a line adds to the statements so far.
abbrev pub Takes : Bool → Names → Table → Taken → Stated → Result (Unit {0}) StateFault → Stated → Type 0
Takes grow names t l old (Ok done) new =
    (statement_fault names t l.line ≡ None)
    × (map statement_of new.statements.items ≡ map statement_of old.statements.items ++ map (λ n. n.1) (stated grow t l))
    × (new.lines.items ≡ old.lines.items ++ map (λ n. n.0) (stated grow t l))
Takes grow names t l old (Err StateFault.NoMemory) new = Unit {0}
Takes grow names t l old (Err why) new = statement_fault names t l.line ≡ Some why
