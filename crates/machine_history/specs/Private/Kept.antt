-- What a history keeps.
use Rattle.std.specs.Prelude.{◌≡◌, ◌≤◌, ℕ, List, All, None, length}
use Rattle.machine_history.specs.declared.kept.Kept.{Kept}
use Rattle.machine_history.specs.Walk.{IsAfter, Point, MemoryState}

-- a state that the run goes on from, with its number
abbrev pub IsKept : MemoryState → Kept → Type 0
IsKept start kept = IsAfter start kept.turn (record { state = kept.snapshot; end = None })

pub record IsHistory (start : MemoryState) (kept : List Kept) (turn : ℕ) (now : Point) : Type 0 where
  pub first : start.turns ≡ 0
  pub kept_are : All (IsKept start) kept
  pub few : length kept ≤ 64
  pub now_is : IsAfter start turn now
