-- The list of the addresses of statements.
use Rattle.std.specs.Prelude.{◌≡◌, ℕ, ◌+◌, ◌≤◌, List, length, slice_index}
use Rattle.relax.specs.declared.shape.Statement.{Statement}
use Rattle.relax.specs.Choice.{Choice, place}

-- the address of each statement, and the address of the end
pub record ArePlaces (c : Choice) (shape : List Statement) (places : List ℕ) : Type 0 where
  pub len : length places ≡ length shape + 1
  pub each : (k : ℕ) → k ≤ length shape → slice_index places k ≡ place c shape k
