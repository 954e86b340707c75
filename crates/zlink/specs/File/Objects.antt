-- When a file reads as the statements of modules.
use Rattle.std.specs.Prelude.{ℕ, ◌&&◌, Bool, false, List, Option, Some, None, if◌then◌else◌, length, map}
use Rattle.std.specs.List.{enumerate_from, filter_map}
use Rattle.relax.specs.declared.shape.Statement.{Statement as Sized}
use Rattle.relax.specs.declared.shape.Statement.TheVariants as sized
use Rattle.relax.specs.Choice.{Choice}
use Rattle.asm_module.specs.Program.Linked.{IsLinkedPiece}
use Rattle.zmo_object.specs.Modules as object
use Rattle.zmo_object.specs.Modules.{ModuleStatement}
use Rattle.zlink.specs.Program.Whole.{Placed}
use Rattle.zlink.specs.File.Reads.{ReadsBy}

-- The size and target of a statement of a module; `stands` says for which statement of the whole program each ref stands.
abbrev pub sized_by : (ℕ → ℕ) → ModuleStatement → Sized
sized_by stands (object.Bytes bytes holes) = sized.Fixed (length bytes)
sized_by stands (object.Jump marked condition target) = sized.Jump (stands target)
sized_by stands (object.Short branch target) = sized.Short (stands target)
sized_by stands (object.Space size fill) = sized.Fixed size

abbrev pub placed_shape : List Placed → List Sized
placed_shape program = map (λ p. sized_by p.stands p.statement) program

-- The bytes are those of a statement of a module, each ref having the address of what it stands for.
abbrev pub IsPlaced : ℕ → Bool → (ℕ → ℕ) → Placed → List ℕ → Type 0
IsPlaced at long places p bytes = IsLinkedPiece at long (λ ref. places (p.stands ref)) p.statement bytes

-- The file is the statements of the modules under this choice, one after the other.
abbrev pub ReadsObjects : List ℕ → List Placed → Choice → Type 0
ReadsObjects file program c = ReadsBy IsPlaced file (placed_shape program) program c

-- a relaxable jump that was written as JR
abbrev pub is_marked : ModuleStatement → Bool
is_marked (object.Jump marked condition target) = marked
is_marked other = false

-- the number of a jump that was written as JR and is long
abbrev pub grown_at : Choice → ℕ × Placed → Option ℕ
grown_at c (k, p) = if is_marked p.statement && c k then Some k else None

-- the numbers of all jumps that were written as JR and are long, ascending
abbrev pub grown : List Placed → Choice → List ℕ
grown program c = filter_map (grown_at c) (enumerate_from 0 program)
