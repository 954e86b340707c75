-- Why jumps are long.
use Rattle.std.specs.Prelude.{◌≡◌, ◌+◌, ◌<◌, ◌≤◌, ℕ, All, List, Option, Some, None, if◌then◌else◌, length, map, take}
use Rattle.std.specs.List.{enumerate_from, filter, filter_map, slice_index_or}
use Rattle.std.specs.List.Sorted.{IsPermutation, IsNonDecreasingBy}
use Rattle.relax.specs.declared.shape.Statement.{Statement}
use Rattle.relax.specs.declared.shape.Statement.TheVariants.{Jump}
use Rattle.relax.specs.Choice.{Choice, IsJump, Reaches}
use Rattle.relax.specs.Growth.{after}
use Rattle.program_map.specs.declared.reasons.long_jumps.LongJump.{LongJump}
use Rattle.program_map.specs.Reasons.Distances.{farthest, jump_distance, lies_between}

-- Why a jump is long, if jumps became long in a forcing order: the first of those that it goes over, in that order, as many as suffice. Once
-- they are long the jump does not reach its target as a short one, and without the last of them it does. There are none if it does not reach
-- its target even if every other jump is short.
pub record IsReason (shape : List Statement) (order : List ℕ) (from to : ℕ) (jumps : List ℕ) : Type 0 where
  pub first : jumps ≡ take (length jumps) (filter (lies_between from to) order)
  pub suffices : ¬ Reaches (after jumps) shape from to
  pub least : (n : ℕ) → n < length jumps → Reaches (after (take n jumps)) shape from to

-- A long jump: where it goes, how many bytes that is while all others stay as they are, how many bytes that is too many, and why it is long.
pub record IsLongJump (shape : List Statement) (order : List ℕ) (j : LongJump) : Type 0 where
  pub jump : IsJump shape j.statement j.target
  pub distance : j.distance ≡ jump_distance (after order) shape j.statement j.target
  pub excess : j.distance ≡ farthest j.statement j.target + j.excess
  pub too_far : 0 < j.excess
  pub reason : IsReason shape order j.statement j.target j.reason.items

-- the numbers of the relaxable jumps that a choice makes long, ascending
abbrev pub long_at : Choice → ℕ × Statement → Option ℕ
long_at c (k, Jump t) = if c k then Some k else None
long_at c other = None

abbrev pub long_numbers : Choice → List Statement → List ℕ
long_numbers c shape = filter_map (long_at c) (enumerate_from 0 shape)

-- All long jumps, each once, sorted by how many bytes are too many, and then by number.
pub record AreLongJumps (shape : List Statement) (order : List ℕ) (jumps : List LongJump) : Type 0 where
  pub each : All (IsLongJump shape order) jumps
  pub all : IsPermutation (long_numbers (after order) shape) (map (λ j. j.statement) jumps)
  pub sorted : IsNonDecreasingBy (λ j. j.excess) jumps
  pub ties :
      (k : ℕ) (d : LongJump) → k + 1 < length jumps
      → (slice_index_or jumps k d).excess ≡ (slice_index_or jumps (k + 1) d).excess
      → (slice_index_or jumps k d).statement ≤ (slice_index_or jumps (k + 1) d).statement
