-- What the statements of a program are: what its sources say.
use Rattle.std.specs.Prelude.{List, map}
use Rattle.asm_module.specs.Program.Statement as statement
use Rattle.asm_module.specs.Program.Statement.{Statement}
use Rattle.program_map.specs.declared.maps.kind.Kind.{Kind}

-- An instruction is code, whether or not it is a jump; DB and DW are data; DS is space.
abbrev pub statement_kind : Statement → Kind
statement_kind (statement.Code instr numbers) = Kind.Code
statement_kind (statement.Jump condition target) = Kind.Code
statement_kind (statement.Short branch target) = Kind.Code
statement_kind (statement.Data items) = Kind.Data
statement_kind (statement.Space size fill) = Kind.Space

abbrev pub kinds : List Statement → List Kind
kinds program = map statement_kind program
