-- What a traced run keeps of its steps.
use Rattle.std.specs.Prelude.{◌≡◌, ◌<◌, ◌==◌, ◌-◌, ℕ, Bool, true, false, List, [], Option, Some, None, count_by, drop, length, slice_index, take}
use Rattle.cpm_run.specs.declared.recording.Record.{Record}
use Rattle.cpm_run.specs.declared.recording.TheConstants.{ADDRESSES}
use Rattle.cpm_run.specs.declared.recording.TraceStep.{TraceStep}
use Rattle.cpm_run.specs.declared.recording.Wish.{Wish}

-- how many of the steps were made at an address
abbrev pub count_at : ℕ → List TraceStep → ℕ
count_at address steps = count_by (λ s. s.before.pc == address) steps

-- the number of steps at each address, or nothing if they were not to be counted
abbrev pub CountsAre : Bool → List TraceStep → List ℕ → Type 0
CountsAre true steps counts = (length counts ≡ ADDRESSES) × ((address : ℕ) → address < ADDRESSES → slice_index counts address ≡ count_at address steps)
CountsAre false steps counts = counts ≡ []

-- the last n of a list
abbrev pub last_items : {X : Type 0} → ℕ → List X → List X
last_items n xs = drop (length xs - n) xs

-- the first steps, the last steps, and the counts, each as far as it was wished
pub record KeepsWished (wish : Wish) (steps : List TraceStep) (kept : Record) : Type 0 where
  pub first : kept.first.items ≡ take wish.first steps
  pub last : kept.last.items ≡ last_items wish.last steps
  pub counts : CountsAre wish.counts steps kept.counts.items

-- what is kept of these steps, unless memory has run out for it
abbrev pub Keeps : Wish → List TraceStep → Option Record → Type 0
Keeps wish steps (Some kept) = KeepsWished wish steps kept
Keeps wish steps None = Unit {0}
