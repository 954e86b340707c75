-- What a debugger does to what it shows.
use Rattle.std.specs.Prelude.{◌≡◌, ◌≢◌, ◌+◌, ◌<◌, ◌≤◌, ◌⊎◌, ℕ, List, Option, None, Some, Ok}
use Rattle.z80_cpu.specs.State.{machine}
use Rattle.z80_cpu.specs.declared.registers.Cpu.{Cpu}
use Rattle.cpm_bdos.specs.System.{new_system}
use Rattle.cpm_console.specs.Dialog.{Dialog}
use Rattle.cpm_disk.specs.Calls.{Mounted}
use Rattle.cpm_disk.specs.Image.{Image}
use Rattle.cpm_run.specs.Start.{IsStart}
use Rattle.cpm_run.specs.declared.arriving.Arrival.{Arrival}
use Rattle.machine_history.specs.declared.history.Outcome.{Outcome}
use Rattle.machine_history.specs.declared.history.Outcome.TheVariants as outcome
use Rattle.machine_history.specs.declared.stops.Goal.{Goal}
use Rattle.machine_history.specs.declared.stops.Stops.{Stops}
use Rattle.machine_history.specs.Stops.{hit_at, holds}
use Rattle.machine_history.specs.Walk.{IsNextPoint, LeadsBy, Point, Shown, first_point}

-- the beginning of a program with its words, on a disk and a console, to which the bytes of a record come
abbrev pub IsFirstShown : List ℕ → List (List ℕ) → Mounted Image → Dialog → List Arrival → Shown → Type 0
IsFirstShown file words disk console recorded shown =
    (cpu : Cpu) × (memory : List ℕ) × IsStart file words (Ok (cpu, memory))
    × (shown.start ≡ record { machine = machine cpu memory; system = new_system disk console; turns = 0; coming = recorded }) × (shown.turn ≡ 0) × (shown.point ≡ first_point shown.start)

-- The point after the number of turns that was asked for is shown, or the last point of the run, if it ends before.
abbrev pub ShowsTurn : ℕ → Shown → Type 0
ShowsTurn turn new = (new.turn ≡ turn) ⊎ ((new.turn < turn) × (new.point.end ≢ None))

-- Turns were made from one point to another, and nothing holds at any of them.
abbrev pub MakesTurns : Option Goal → Stops → ℕ → Shown → Shown → Type 0
MakesTurns goal stops limit old new = (turns : ℕ) × (turns ≤ limit) × (new.turn ≡ old.turn + turns) × LeadsBy (holds goal stops) turns old.point new.point

-- The turns that were made from one point to another. Something holds at the last of them and at no other; or nothing holds at any of them, and
-- the run has ended, or all turns that are allowed were made and it goes on.
abbrev pub RanUntil : Option Goal → Stops → ℕ → Shown → Shown → Outcome → Type 0
RanUntil goal stops limit old new (outcome.Held why) =
    (before : ℕ) × (last : Point) × (before < limit) × (new.turn ≡ old.turn + before + 1)
    × LeadsBy (holds goal stops) before old.point last × IsNextPoint last new.point × (hit_at goal stops last.state new.point.state ≡ Some why)
RanUntil goal stops limit old new outcome.Ended = MakesTurns goal stops limit old new × (new.point.end ≢ None)
RanUntil goal stops limit old new outcome.Limit = (new.turn ≡ old.turn + limit) × LeadsBy (holds goal stops) limit old.point new.point × (new.point.end ≡ None)
