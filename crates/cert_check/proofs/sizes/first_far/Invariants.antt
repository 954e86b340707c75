use Rattle.std.proofs.Common.{◌≡◌, ℕ, ◌<◌, length, Some}
use Rattle.std.specs.List.{slice_get}
use Rattle.cert_check.specs.FileTypes.{Statement}
use Rattle.cert_check.specs.Choice.{IsStatement}
use Rattle.cert_check.proofs.sizes.first_far.Given as goal

abbrev pub invariant-loop-k : goal.invariant-loop-k
invariant-loop-k l = (j : ℕ) (other : Statement) → j < l.k → slice_get l.statements j ≡ Some other → IsStatement (length l.statements) other
