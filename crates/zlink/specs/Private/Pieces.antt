-- What is written for statements.
use Rattle.std.specs.Prelude.{◌≡◌, ℕ, ◌+◌, ◌^◌, ◌<◌, Bool, false, List, [], ◌∷◌, ◌++◌, All, Some, length, slice_get, slice_index}
use Rattle.relax.specs.Choice.{Choice, IsNear, size_of}
use Rattle.asm_module.specs.Program.Linked.{IsLinkedPiece}
use Rattle.zmo_object.specs.Holes.{IsHole, LieWithin}
use Rattle.zmo_object.specs.Modules as object
use Rattle.zmo_object.specs.Modules.{ModuleStatement}
use Rattle.zlink.specs.File.Objects.{sized_by}

-- `new` is `old` with bytes appended, and P holds of these bytes
abbrev pub Appends : List ℕ → List ℕ → (List ℕ → Type 0) → Type 0
Appends old new P = (bytes : List ℕ) × (new ≡ old ++ bytes) × P bytes

-- the statement can be written at this address; the table has the address of each ref
abbrev pub IsReady : ℕ → Bool → List ℕ → ModuleStatement → Type 0
IsReady at long table (object.Bytes bytes holes) = LieWithin 0 (length bytes) holes × All (IsHole (length table) bytes) holes
IsReady at long table (object.Jump marked condition target) = (at < 2 ^ 31) × (target < length table) × (long ≡ false → IsNear at (slice_index table target))
IsReady at long table (object.Short branch target) = (at < 2 ^ 31) × (target < length table) × IsNear at (slice_index table target)
IsReady at long table (object.Space size fill) = Unit {0}

-- the bytes are those of the statement, and as many as its size says
abbrev pub IsSizedPiece : ℕ → Bool → List ℕ → ModuleStatement → List ℕ → Type 0
IsSizedPiece at long table s bytes = IsLinkedPiece at long (λ ref. slice_index table ref) s bytes × (length bytes ≡ size_of long (sized_by (λ ref. ref) s))

-- all these statements can be written; the first has the number `first` in the program
abbrev pub AreReady : Choice → List ℕ → List ℕ → ℕ → List ModuleStatement → Type 0
AreReady c places table first statements = (i : ℕ) (s : ModuleStatement) → slice_get statements i ≡ Some s → IsReady (slice_index places (first + i)) (c (first + i)) table s

-- the bytes are those of these statements, one after the other; the first has the number k
abbrev pub AreLaid : (ℕ → ModuleStatement → List ℕ → Type 0) → ℕ → List ModuleStatement → List ℕ → Type 0
AreLaid IsPiece k [] bytes = bytes ≡ []
AreLaid IsPiece k (s ∷ ss) bytes = (one : List ℕ) × (rest : List ℕ) × (bytes ≡ one ++ rest) × IsPiece k s one × AreLaid IsPiece (k + 1) ss rest
