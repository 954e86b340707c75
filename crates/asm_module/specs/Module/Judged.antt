-- What `judge` answers for one line.
use Rattle.std.specs.Prelude.{◌≡◌, Bool, Option, Some, None, Result, Ok, Err}
use Rattle.std.specs.Option.{option_map}
use Rattle.asm_expr.specs.Names.{Table}
use Rattle.asm_spell.specs.Line.{Line}
use Rattle.asm_names.specs.Names.{Names}
use Rattle.zmo_object.specs.declared.module.statement.Statement as code
use Rattle.zmo_object.specs.Modules.{ModuleStatement, statement_of}
use Rattle.asm_module.specs.declared.statements.fault.StateFault.{StateFault}
use Rattle.asm_module.specs.Module.Stated.{statement_fault}
use Rattle.asm_module.specs.Module.Statements.{line_statement}

-- The answer is this error or this statement. If memory ran out, nothing is claimed.
abbrev pub Judges : Option StateFault → Option ModuleStatement → Result (Option code.Statement) StateFault → Type 0
Judges fault stated (Ok s) = (fault ≡ None) × (option_map statement_of s ≡ stated)
Judges fault stated (Err StateFault.NoMemory) = Unit {0}
Judges fault stated (Err why) = fault ≡ Some why

abbrev pub JudgesLine : Bool → Names → Table → Line → Result (Option code.Statement) StateFault → Type 0
JudgesLine grow names t line r = Judges (statement_fault names t line) (line_statement grow t line) r
