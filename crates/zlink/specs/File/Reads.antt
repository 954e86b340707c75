-- When a file reads as a program, statement by statement, for any type of statement.
use Rattle.std.specs.Prelude.{◌≡◌, ℕ, ◌+◌, Bool, List, Some, length, slice_get, slice_range}
use Rattle.relax.specs.declared.shape.Statement.{Statement as Sized}
use Rattle.relax.specs.Choice.{Choice, bytes_before, place, total}

-- When bytes are those of a statement: given its address, whether it is long, and the address of each statement.
abbrev pub Pieces : Type 0 → Type 1
Pieces S = ℕ → Bool → (ℕ → ℕ) → S → List ℕ → Type 0

-- The file is the program under a choice: cut at the addresses of the statements, each part is the bytes of its statement, and nothing is
-- left over.
pub record ReadsBy {S : Type 0} (IsPiece : Pieces S) (file : List ℕ) (shape : List Sized) (program : List S) (c : Choice) : Type 0 where
  pub length_is : length file ≡ total c shape
  pub pieces : (k : ℕ) (s : S) → slice_get program k ≡ Some s →
      IsPiece (place c shape k) (c k) (place c shape) s (slice_range file (bytes_before c shape k) (bytes_before c shape (k + 1)))
