-- The program that the lines of a source describe, and when the statements of a module are those of this program at given addresses.
use Rattle.std.specs.Prelude.{◌≡◌, ◌<◌, ℕ, Bool, List, Option, Some, None, All, length}
use Rattle.std.specs.List.{AllZip, filter_map}
use Rattle.asm_expr.specs.Distances.{Step}
use Rattle.asm_expr.specs.Names.{Table}
use Rattle.asm_names.specs.Layout.{Layout}
use Rattle.asm_names.specs.Lines.{Taken, placed}
use Rattle.asm_module.specs.Program.Linked.{IsSizedLike, IsLinkedPiece}
use Rattle.asm_module.specs.Program.Pieces.{IsPiece, statement_size, takes}
use Rattle.asm_module.specs.Program.Statement.{Statement, stated}
use Rattle.asm_spell.specs.Line as line
use Rattle.asm_spell.specs.Line.{Line}
use Rattle.asm_module.specs.Layouts.Sizes.{sizes}
use Rattle.asm_module.specs.Module.Stated.{table_at_line}
use Rattle.zmo_object.specs.Modules as object

-- the statement that a line describes, with its names replaced by what they stand for
abbrev pub line_states : Bool → Table → Line → Option Statement
line_states grow t (line.Statement label (Some body)) = stated grow t body
line_states grow t _ = None

-- The statements of a program, in the order of their lines.
abbrev pub program_of_lines : Bool → Table → Layout → List Taken → List Statement
program_of_lines grow t layout lines = filter_map (λ l. line_states grow (table_at_line layout t l.0) l.1.line) (placed lines)

-- Any bytes that are linked from the module's statement, at these addresses, short or long, are the bytes of the program's statement, and
-- as many as it takes.
abbrev pub IsLinkedAs : (ℕ → ℕ) → object.ModuleStatement → Statement → Type 0
IsLinkedAs places o s = (at : ℕ) (long : Bool) (bytes : List ℕ) → All (λ b. b < 256) bytes → IsLinkedPiece at long places o bytes → IsPiece at long places s bytes × (length bytes ≡ takes long (statement_size s))

-- The statements of a module are those of a program, one by one. They have the same sizes, and jumps go to the same refs. At all addresses
-- that grow by each known size, the bytes linked from the module's statement are those of the program's. The addresses of every choice of
-- jumps grow so, whatever the first address is and wherever externals are.
pub record AreAt (statements : List object.ModuleStatement) (program : List Statement) : Type 0 where
  pub like : AllZip IsSizedLike statements program
  pub pieces : (places : ℕ → ℕ) → Step (sizes statements) places → AllZip (IsLinkedAs places) statements program
