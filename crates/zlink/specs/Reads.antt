-- When a file reads as a program, statement by statement. A ref is the number of a statement; their count is the end.
use Rattle.std.specs.Prelude.{ℕ, List, length, map}
use Rattle.std.specs.List.{sum_by}
use Rattle.z80_instr.specs.Table.{canonical}
use Rattle.relax.specs.declared.shape.Statement.{Statement as Sized}
use Rattle.relax.specs.declared.shape.Statement.TheVariants as sized
use Rattle.relax.specs.Choice.{Choice}
use Rattle.asm_module.specs.Program.Pieces.{IsPiece, width}
use Rattle.asm_module.specs.Program.Statement as statement
use Rattle.asm_module.specs.Program.Statement.{Statement}
use Rattle.zlink.specs.File.Reads.{ReadsBy}

-- the size and target of a statement
abbrev pub sized_as : Statement → Sized
sized_as (statement.Code instr numbers) = sized.Fixed (length (canonical instr))
sized_as (statement.Data items) = sized.Fixed (sum_by width items)
sized_as (statement.Space size fill) = sized.Fixed size
sized_as (statement.Jump condition target) = sized.Jump target
sized_as (statement.Short branch target) = sized.Short target

abbrev pub shape : List Statement → List Sized
shape program = map sized_as program

-- The file is the program under a choice: cut at the addresses of the statements, each part is the bytes of its statement, and nothing is
-- left over.
abbrev pub Reads : List ℕ → List Statement → Choice → Type 0
Reads file program c = ReadsBy IsPiece file (shape program) program c
