-- The statements that lines make in a module.
use Rattle.std.specs.Prelude.{Bool, true, false, Option, Some, None, Result, Ok}
use Rattle.z80_instr.specs.declared.Branch.{Branch}
use Rattle.asm_expr.specs.Names.{Table}
use Rattle.asm_spell.specs.declared.fault.StmtFault.{StmtFault}
use Rattle.asm_spell.specs.Line as line
use Rattle.asm_spell.specs.Line.{Line}
use Rattle.asm_stmt.specs.Made as made
use Rattle.asm_stmt.specs.Made.{Made, Piece, made}
use Rattle.zmo_object.specs.Modules as object
use Rattle.zmo_object.specs.Modules.{ModuleStatement}

-- A piece as a statement of a module: with --grow a JR to a name is a relaxable jump that is marked as written as JR.
abbrev pub statement_by : Bool → Piece → ModuleStatement
statement_by grow (made.Bytes bytes holes) = object.Bytes bytes holes
statement_by grow (made.Jump condition target) = object.Jump false condition target
statement_by true (made.Short (Branch.Relative condition) target) = object.Jump true condition target
statement_by grow (made.Short branch target) = object.Short branch target
statement_by grow (made.Space size fill) = object.Space size fill

abbrev pub of_made : Bool → Result Made StmtFault → Option ModuleStatement
of_made grow (Ok (made.Some_piece p)) = Some (statement_by grow p)
of_made grow _ = None

-- the statement that a line makes, if it makes one
abbrev pub line_statement : Bool → Table → Line → Option ModuleStatement
line_statement grow t (line.Statement label (Some body)) = of_made grow (made t body)
line_statement grow t _ = None
