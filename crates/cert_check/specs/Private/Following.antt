use Rattle.std.specs.Prelude.{◌≡◌, ℕ, ◌+◌, ◌<◌, ◌≤◌, All, true, false, List, length, slice_index, take, Result, Ok, Err, Option, Some, None, Vec, Bool}
use Rattle.std.specs.Global.{Global}
use Rattle.std.specs.List.{slice_index_or}
use Rattle.cert_check.specs.declared.limits.TheConstants.{MOST_BYTES}
use Rattle.cert_check.specs.declared.shape.Statement.{Statement}
use Rattle.cert_check.specs.declared.cert.Verdict.{Verdict}
use Rattle.cert_check.specs.declared.cert.Verdict.TheVariants.{Best, Range, TooLarge}
use Rattle.cert_check.specs.Choice.{Choice, chosen, IsShape, IsAnyJump, Fits, size_at, total}
use Rattle.cert_check.specs.Forcing.{after, IsForcing}
use Rattle.cert_check.specs.Accepts.{IsOutOfRange, IsVerdictOf}
use Rattle.cert_check.specs.Types.{CheckFault}
use Rattle.cert_check.specs.declared.fault.CheckFault.TheVariants.{NotForced, NotAJump, Repeated, StillShort, WrongTotal, NotOutOfRange, NoMemory}
use Rattle.cert_check.specs.Faults.{IsStillShort, HasTotal}

-- What is found while an order is followed.

-- a size that a statement may have
abbrev pub IsSize : ℕ → Type 0
IsSize bytes = (1 ≤ bytes) × (bytes ≤ MOST_BYTES)

-- a flag for each statement of a shape, and how many bytes each statement takes with these flags
pub record IsLayout (shape : List Statement) (long : List Bool) (sizes : List ℕ) : Type 0 where
  pub is_shape : IsShape shape
  pub len : length long ≡ length shape
  pub count : length sizes ≡ length shape
  pub each : (k : ℕ) → slice_index_or sizes k 0 ≡ size_at (chosen long) shape k
  pub bytes : All IsSize sizes

-- the order is forcing, and the flags are the choice after it
pub record Follows (shape : List Statement) (order : List ℕ) (long : List Bool) : Type 0 where
  pub forcing : IsForcing shape order
  pub len : length long ≡ length shape
  pub flags : (k : ℕ) → chosen long k ≡ after order k

-- the members before number i are a forcing order, and IsSo holds of number i
pub record FailsAt (IsSo : List ℕ → ℕ → Type 0) (shape : List Statement) (order : List ℕ) (line : ℕ) : Type 0 where
  pub index : ℕ
  pub within : index < length order
  pub number : line ≡ index + 2
  pub forcing : IsForcing shape (take index order)
  pub wrong : IsSo (take index order) (slice_index order index)

-- the result of following an order: its flags, or the first line that is wrong
abbrev pub IsFollowed : List Statement → List ℕ → Result (Vec Bool Global) CheckFault → Type 0
IsFollowed shape order (Ok long) = Follows shape order long.items
IsFollowed shape order (Err (NotAJump line)) = FailsAt (λ before k. ¬ IsAnyJump shape k) shape order line
IsFollowed shape order (Err (Repeated line)) = FailsAt (λ before k. IsAnyJump shape k × (after before k ≡ true)) shape order line
IsFollowed shape order (Err (NotForced line)) = FailsAt (λ before k. IsAnyJump shape k × (after before k ≡ false) × Fits (after before) shape k) shape order line
IsFollowed shape order (Err NoMemory) = Unit {0}
IsFollowed shape order (Err fault) = ⊥

-- the lowest statement that is still short and does not reach its target
abbrev pub IsFirstMiss : Choice → List Statement → Option ℕ → Type 0
IsFirstMiss c shape (Some k) = IsStillShort c shape k × (k < length shape) × ((j : ℕ) → j < k → ¬ IsStillShort c shape j)
IsFirstMiss c shape None = (j : ℕ) → ¬ IsStillShort c shape j

-- a total is compared with that of a verdict
abbrev pub IsTotalChecked : ℕ → Verdict → Result (Unit {0}) CheckFault → Type 0
IsTotalChecked bytes verdict (Ok _) = HasTotal bytes verdict
IsTotalChecked bytes verdict (Err WrongTotal) = ¬ HasTotal bytes verdict
IsTotalChecked bytes verdict (Err fault) = ⊥

-- a verdict is judged in one choice
abbrev pub IsJudged : Choice → List Statement → Verdict → Result (Unit {0}) CheckFault → Type 0
IsJudged c shape verdict (Ok _) = IsVerdictOf c shape verdict
IsJudged c shape (Best n) (Err (StillShort k)) = IsFirstMiss c shape (Some k)
IsJudged c shape (Best n) (Err WrongTotal) = IsFirstMiss c shape None × ¬ HasTotal (total c shape) (Best n)
IsJudged c shape (Range k) (Err (NotOutOfRange j)) = (j ≡ k) × ¬ IsOutOfRange c shape k
IsJudged c shape (TooLarge n) (Err WrongTotal) = ¬ HasTotal (total c shape) (TooLarge n)
IsJudged c shape verdict (Err fault) = ⊥
