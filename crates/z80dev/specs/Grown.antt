-- Jumps of a program that were written as a JR.
use Rattle.std.specs.Prelude.{◌≡◌, ℕ, List, Some, slice_get, true}
use Rattle.zlink.specs.File.Objects.{is_marked}
use Rattle.zlink.specs.Program.Whole.{Placed}

-- Statement k of the whole program is a jump that was written as a JR.
pub record IsMarkedJump (program : List Placed) (k : ℕ) : Type 0 where
  pub placed : Placed
  pub there : slice_get program k ≡ Some placed
  pub marked : is_marked placed.statement ≡ true
