use Rattle.std.specs.Prelude.{◌≡◌, ℕ, ◌+◌, ◌<◌, ◌≤◌, Bool, false, List, length, min, Some, slice_get, slice_index}
use Rattle.relax.specs.declared.shape.Statement.{Statement}
use Rattle.relax.specs.declared.shape.Statement.TheVariants.{Fixed, Jump, Short}
use Rattle.relax.specs.declared.reach.TheConstants.{LONGEST}
use Rattle.relax.specs.declared.spans.TheConstants.{NEAR}
use Rattle.relax.specs.Choice.{Choice, chosen, bytes_before, total, IsShape}

-- How a ruler keeps how far its jumps go.

-- What is kept of the span from one address to another. The span is the number of bytes between them, and three more if
-- the target comes first: -128 and 127 bytes from the end of a short jump are both a span of 129. What is kept is exact
-- as far as a short jump reaches, and beyond that it is at most the span.
pub record IsSpan (from to span : ℕ) : Type 0 where
  pub ahead : from ≤ to → (from + span ≤ to) × (span ≤ LONGEST → from + span ≡ to)
  pub behind : to < from → (to + span ≤ from + 3) × (span ≤ LONGEST → to + span ≡ from + 3)

-- the statement that statement k goes to, or k itself if it is not a jump
abbrev pub target_of : ℕ → Statement → ℕ
target_of k (Fixed n) = k
target_of k (Jump t) = t
target_of k (Short t) = t

-- the target of each statement
abbrev pub AreTargets : List Statement → List ℕ → Type 0
AreTargets shape targets = (k : ℕ) (s : Statement) → slice_get shape k ≡ Some s → slice_index targets k ≡ target_of k s

-- every jump is short
abbrev pub none_long : Choice
none_long k = false

-- the bytes before each statement and before the end, if every jump is short
abbrev pub ArePlaces : List Statement → List ℕ → Type 0
ArePlaces shape places = (k : ℕ) → k ≤ length shape → slice_index places k ≡ bytes_before none_long shape k

-- the spans from each statement to its target
abbrev pub AreSpans : List ℕ → List ℕ → List ℕ → Type 0
AreSpans targets places spans =
    (k : ℕ) → k < length targets
    → IsSpan (slice_index places k) (slice_index places (slice_index targets k)) (slice_index spans k)

-- The spans after statement k grew by a byte: the spans of jumps near k that go over k's bytes grow by one, up to 255.
-- So does k's own if it goes forward. All others stay.
pub record Widened (targets was is : List ℕ) (k : ℕ) : Type 0 where
  pub len : length is ≡ length was
  pub ahead :
      (j : ℕ) → j ≤ k → k ≤ j + NEAR → k < slice_index targets j
      → slice_index is j ≡ min (slice_index was j + 1) 255
  pub back :
      (j : ℕ) → k < j → j ≤ k + NEAR → j < length targets → slice_index targets j ≤ k
      → slice_index is j ≡ min (slice_index was j + 1) 255
  pub stops_before : (j : ℕ) → j ≤ k → slice_index targets j ≤ k → slice_index is j ≡ slice_index was j
  pub stays_behind : (j : ℕ) → k < j → k < slice_index targets j → slice_index is j ≡ slice_index was j
  pub far_before : (j : ℕ) → j + NEAR < k → slice_index is j ≡ slice_index was j
  pub far_behind : (j : ℕ) → k + NEAR < j → slice_index is j ≡ slice_index was j

-- What a `Sums` keeps, which its callers do not see.
pub record HoldsSpans (shape : List Statement) (long : List Bool) (targets spans : List ℕ) (bytes : ℕ) : Type 0 where
  pub is_shape : IsShape shape
  pub same_long : length long ≡ length shape
  pub same_targets : length targets ≡ length shape
  pub same_spans : length spans ≡ length shape
  pub goes : AreTargets shape targets
  pub far :
      (k : ℕ) → k < length shape
      → IsSpan (bytes_before (chosen long) shape k) (bytes_before (chosen long) shape (slice_index targets k)) (slice_index spans k)
  pub all : bytes ≡ total (chosen long) shape
