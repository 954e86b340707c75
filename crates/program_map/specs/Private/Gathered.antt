-- How reasons are found: one long jump after the other, in the forcing order.
use Rattle.std.specs.Prelude.{◌≡◌, ◌+◌, ◌-◌, ◌<◌, ◌≤◌, ℕ, Bool, true, List, [], All, Vec, length, map, slice_get, take}
use Rattle.std.specs.Option.{option_map_or}
use Rattle.std.specs.List.{filter, slice_index_or}
use Rattle.std.specs.List.Sorted.{IsNonDecreasingBy}
use Rattle.relax.specs.declared.shape.Statement.{Statement}
use Rattle.relax.specs.declared.shape.Statement.TheVariants.{Fixed, Jump}
use Rattle.relax.specs.Choice.{Choice, IsJump, IsShape, bytes_before}
use Rattle.relax.specs.Growth.{after}
use Rattle.program_map.specs.Reasons.Distances.{farthest, jump_distance, lies_between}
use Rattle.program_map.specs.declared.reasons.long_jumps.LongJump.{LongJump}
use Rattle.program_map.specs.Reasons.Reasons.{long_numbers}
use Rattle.program_map.specs.declared.reasons.gathering.Want.{Want}

-- the bytes before each statement and before the end
abbrev pub AreBytesBefore : Choice → List Statement → List ℕ → Type 0
AreBytesBefore c shape places = (k : ℕ) → k ≤ length shape → slice_index_or places k 0 ≡ bytes_before c shape k

-- how many of the jumps that a jump goes over have to be long, so that it does not reach its target
abbrev pub wanted_count : List Statement → ℕ → ℕ → ℕ
wanted_count shape from to = (farthest from to + 1) - jump_distance (after []) shape from to

-- how many jumps the reason of a statement has, and where it goes: none, if it is no long jump
abbrev pub want_of : Bool → List Statement → ℕ → Statement → Want
want_of true shape k (Jump t) = record { target = t; count = wanted_count shape k t }
want_of long shape k other = record { target = 0; count = 0 }

abbrev pub want_at : List Want → ℕ → Want
want_at wants k = slice_index_or wants k (record { target = 0; count = 0 })

-- the jumps of a list, as many as wanted, that a statement goes over
abbrev pub gathered : Want → ℕ → List ℕ → List ℕ
gathered want k order = take want.count (filter (lies_between k want.target) order)

-- what is wanted for each statement
abbrev pub AreWants : List Statement → Choice → List Want → Type 0
AreWants shape c wants = (k : ℕ) → k < length shape → want_at wants k ≡ want_of (c k) shape k (slice_index_or shape k (Fixed 0))

-- a statement that wants jumps goes over none that is more than 128 statements away
abbrev pub AreNear : List Want → Type 0
AreNear wants =
    (k m : ℕ) → k < length wants → 0 < (want_at wants k).count → lies_between k (want_at wants k).target m ≡ true
    → (m ≤ k + 128) × (k ≤ m + 128)

-- the members of list number k
abbrev pub items_at : {A : Type 0} → List (Vec ℕ A) → ℕ → List ℕ
items_at {A} lists k = option_map_or (λ v. v.items) (slice_get lists k) []

-- the record of long jump k, given how many bytes come before each statement
pub record Describes (places : List ℕ) (k to : ℕ) (jumps : List ℕ) (j : LongJump) : Type 0 where
  pub statement : j.statement ≡ k
  pub target : j.target ≡ to
  pub distance :
      (c : Choice) (shape : List Statement) → IsShape shape → AreBytesBefore c shape places → k < length shape → to ≤ length shape
      → j.distance ≡ jump_distance c shape k to
  pub excess : j.excess ≡ j.distance - farthest k to
  pub reason : j.reason.items ≡ jumps

pub record IsDescribed {A : Type 0} (shape : List Statement) (c : Choice) (places : List ℕ) (reasons : List (Vec ℕ A)) (j : LongJump) : Type 0 where
  pub jump : IsJump shape j.statement j.target
  pub long : c j.statement ≡ true
  pub describes : Describes places j.statement j.target (items_at reasons j.statement) j

-- the long jumps among the first n statements, in their order
pub record AreDescribed {A : Type 0} (n : ℕ) (shape : List Statement) (c : Choice) (places : List ℕ) (reasons : List (Vec ℕ A)) (jumps : List LongJump) : Type 0 where
  pub each : All (IsDescribed shape c places reasons) jumps
  pub below : All (λ j. j.statement < n) jumps
  pub ascending : IsNonDecreasingBy (λ j. j.statement) jumps
  pub numbers : map (λ j. j.statement) jumps ≡ long_numbers c (take n shape)
