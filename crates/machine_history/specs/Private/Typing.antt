-- What was typed before a turn.
use Rattle.std.specs.Prelude.{◌≡◌, drop, length}
use Rattle.machine_history.specs.Walk.{MemoryState, due_in, run_of, with_typed}

-- the bytes that are due were typed, and no turn was made
pub record HasTyped (old new : MemoryState) : Type 0 where
  pub run : run_of new ≡ with_typed (due_in old) old
  pub turns : new.turns ≡ old.turns
  pub coming : new.coming ≡ drop (length (due_in old)) old.coming
