-- The states of a run by their number: what a debugger shows.
use Rattle.std.specs.Prelude.{◌≡◌, ◌≢◌, ◌+◌, ◌⊎◌, ℕ, Bool, false, List, [], Option, Some, None, drop, if◌then◌else◌, length, map}
use Rattle.z80_cpu.specs.State.{Machine}
use Rattle.cpm_console.specs.Dialog.{Dialog, typed_in}
use Rattle.cpm_disk.specs.Image.{Image}
use Rattle.cpm_bdos.specs.System.{System}
use Rattle.cpm_run.specs.Play.{on_console}
use Rattle.cpm_run.specs.Turns.{IsTurn, RunState, is_finished}
use Rattle.cpm_run.specs.declared.arriving.Arrival.{Arrival}
use Rattle.cpm_run.specs.declared.ending.Why.{Why}
use Rattle.cpm_run.specs.declared.ending.Why.TheVariants as why
use Rattle.machine_history.specs.Coming.{due}

-- The state of a run on a disk and a console in memory: the machine and the system; the number of turns so far; and the bytes that are still to
-- come from the keyboard, each with the number of turns before it.
pub record MemoryState : Type 0 where
  pub machine : Machine
  pub system : System Image Dialog
  pub turns : ℕ
  pub coming : List Arrival

-- the same state as a run sees it that knows of no bytes to come
abbrev pub run_of : MemoryState → RunState Image Dialog
run_of s = record { machine = s.machine; system = s.system }

-- the bytes that are due in a state
abbrev pub due_in : MemoryState → List Arrival
due_in s = due s.turns s.coming

-- the run in this state when these bytes have been typed
abbrev pub with_typed : List Arrival → MemoryState → RunState Image Dialog
with_typed arrivals s = on_console (typed_in (map (λ arrival. arrival.byte) arrivals) s.system.terminal.console) (run_of s)

-- The bytes that are due are typed, and then the program makes a step.
pub record TypesAndSteps (old : MemoryState) (end : Option Why) (new : MemoryState) : Type 0 where
  pub step : IsTurn (λ image. image) (λ image. 0) (λ dialog. dialog) (with_typed (due_in old) old) end (run_of new)
  pub turns : new.turns ≡ old.turns + 1
  pub coming : new.coming ≡ drop (length (due_in old)) old.coming

-- One turn, and why it ends the run, if it does. If bytes are due and memory runs out for them, the run ends as it was.
abbrev pub MakesTurn : MemoryState → Option Why → MemoryState → Type 0
MakesTurn old end new = TypesAndSteps old end new ⊎ ((due_in old ≢ []) × (end ≡ Some why.NoMemory) × (new ≡ old))

-- a state, and why the run ends in it, if it does
pub record Point : Type 0 where
  pub state : MemoryState
  pub end : Option Why

-- A run ends in a state if the turn before it ended the run, or if the program has finished.
abbrev pub end_after : Option Why → MemoryState → Option Why
end_after (Some end) state = Some end
end_after None state = if is_finished state.machine.cpu.pc then Some why.Finished else None

-- the point at which a run begins
abbrev pub first_point : MemoryState → Point
first_point start = record { state = start; end = end_after None start }

-- One turn leads from a point to the next. There is none if the run has ended.
pub record IsNextPoint (old new : Point) : Type 0 where
  pub goes : old.end ≡ None
  pub by : Option Why
  pub turns : MakesTurn old.state by new.state
  pub ends : new.end ≡ end_after by new.state

-- This number of turns leads from a point to another. The test does not hold for any of them, given the states before and after the turn.
pub data LeadsBy (test : MemoryState → MemoryState → Bool) : ℕ → Point → Point → Type 0 where
  none : (p : Point) → LeadsBy test 0 p p
  more : (n : ℕ) (old last new : Point) → LeadsBy test n old last → IsNextPoint last new → test last.state new.state ≡ false → LeadsBy test (n + 1) old new

-- a test that never holds
abbrev pub never : MemoryState → MemoryState → Bool
never old new = false

-- the point after a number of turns of the run that begins in a state
abbrev pub IsAfter : MemoryState → ℕ → Point → Type 0
IsAfter start n p = LeadsBy never n (first_point start) p

-- A history of a run: the state in which the run began, and the point that is shown, with the number of turns before it.
pub record Shown : Type 0 where
  pub start : MemoryState
  pub turn : ℕ
  pub point : Point

-- what is shown is the point after this number of turns
abbrev pub IsTrue_of_run : Shown → Type 0
IsTrue_of_run shown = IsAfter shown.start shown.turn shown.point

-- why a run ends in a point that may make no more turns
abbrev pub limit_end : Option Why → Why
limit_end (Some end) = end
limit_end None = why.TurnLimit
