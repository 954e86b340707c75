-- The bytes that a linker makes from a statement of a module: fix-ups are filled, jumps are encoded.
use Rattle.std.specs.Prelude.{◌≡◌, ℕ, ◌+◌, Bool, List, [], ◌∷◌, ◌++◌, Option, Some, None, length, take, drop}
use Rattle.asm_expr.specs.Below.{value, tree}
use Rattle.zmo_object.specs.declared.module.hole.Hole.{Hole}
use Rattle.asm_stmt.specs.Cells.{written}
use Rattle.asm_module.specs.Layouts.Sizes.{size_in_module}
use Rattle.zmo_object.specs.Modules as object
use Rattle.zmo_object.specs.Modules.{ModuleStatement}
use Rattle.asm_module.specs.Program.Statement as statement
use Rattle.asm_module.specs.Program.Statement.{target_of}
use Rattle.asm_module.specs.Program.Pieces.{IsPiece, statement_size}

-- bytes with one fix-up filled
abbrev pub fill_one : (ℕ → ℕ) → List ℕ → Hole → List ℕ
fill_one places bytes h =
    let new = written h.width (value places (tree h.value)) in
    take h.offset bytes ++ (new ++ drop (h.offset + length new) bytes)

-- bytes with all fix-ups filled by the values of their expressions
abbrev pub filled : (ℕ → ℕ) → List ℕ → List Hole → List ℕ
filled places bytes [] = bytes
filled places bytes (h ∷ hs) = filled places (fill_one places bytes h) hs

-- The bytes are those of a statement of a module, given its address, whether it is long, and the address of each ref.
abbrev pub IsLinkedPiece : ℕ → Bool → (ℕ → ℕ) → ModuleStatement → List ℕ → Type 0
IsLinkedPiece at long places (object.Bytes blank holes) bytes = bytes ≡ filled places blank holes
IsLinkedPiece at long places (object.Space n fill) bytes = IsPiece at long places (statement.Space n fill) bytes
IsLinkedPiece at long places (object.Jump marked condition target) bytes = IsPiece at long places (statement.Jump condition target) bytes
IsLinkedPiece at long places (object.Short branch target) bytes = IsPiece at long places (statement.Short branch target) bytes

-- the ref to which a jump of a module goes
abbrev pub target_in : ModuleStatement → Option ℕ
target_in (object.Jump marked condition target) = Some target
target_in (object.Short branch target) = Some target
target_in _ = None

-- The module's statement takes as many bytes as the program's, and goes to the same ref.
pub record IsSizedLike (o : ModuleStatement) (s : statement.Statement) : Type 0 where
  pub size : size_in_module o ≡ statement_size s
  pub target : target_in o ≡ target_of s
