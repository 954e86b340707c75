-- How a run of a program ends.
use Rattle.std.specs.Prelude.{◌≡◌, ◌<◌, ◌≤◌, ◌+◌, ◌⊎◌, ℕ, true, false, List, Some, Ok, Err, codes}
use Rattle.z80_cpu.specs.State.{machine}
use Rattle.z80_cpu.specs.declared.registers.Cpu.{Cpu}
use Rattle.cpm_console.specs.Dialog.{Dialog}
use Rattle.cpm_disk.specs.Calls.{Mounted}
use Rattle.cpm_disk.specs.Image.{Image}
use Rattle.cpm_run.specs.declared.fault.StartFault.{StartFault}
use Rattle.cpm_run.specs.declared.fault.StartFault.TheVariants as fault
use Rattle.cpm_run.specs.Start.{IsStart}
use Rattle.cpm_bdos.specs.System.{new_system}
use Rattle.cpm_disk.specs.Control.Stops.{stop_text}
use Rattle.cpm_run.specs.declared.ending.Why.{Why}
use Rattle.cpm_run.specs.declared.ending.Why.TheVariants as why
use Rattle.cpm_run.specs.Turns.{Goes, IsTurn, RunState, is_finished}

-- How a run of at most `limit` steps ends. The program has finished, which is tested before the limit; or the limit is reached; or a last
-- step, which counts too, ends the run.
abbrev pub TurnsEnd : {S C : Type 0} → (S → Image) → (S → ℕ) → (C → Dialog) → ℕ → RunState S C → Why → ℕ → RunState S C → Type 0
TurnsEnd {S} {C} sectors faults dialog limit old end turns new =
    (Goes sectors faults dialog turns old new × (turns ≤ limit) × (is_finished new.machine.cpu.pc ≡ true) × (end ≡ why.Finished))
    ⊎ ((Goes sectors faults dialog turns old new × (turns ≡ limit) × (is_finished new.machine.cpu.pc ≡ false) × (end ≡ why.TurnLimit))
    ⊎ ((before : ℕ) × (last : RunState S C) × (turns ≡ before + 1) × (before < limit) × Goes sectors faults dialog before old last
    × (is_finished last.machine.cpu.pc ≡ false) × IsTurn sectors faults dialog last (Some end) new))

-- the reason for the end of a run, in words
abbrev pub why_text : Why → List ℕ
why_text why.Finished = codes "the program finished"
why_text why.Halted = codes "the program halted"
why_text why.Undocumented = codes "no documented instruction"
why_text why.TurnLimit = codes "the limit of turns was reached"
why_text (why.Stopped stop) = stop_text stop
why_text why.ComTooLong = codes "the program is too long"
why_text why.TailTooLong = codes "the words are too long"
why_text why.NoMemory = codes "out of memory"

-- why a run ends whose program cannot be started
abbrev pub unstarted : StartFault → Why
unstarted fault.ComTooLong = why.ComTooLong
unstarted fault.TailTooLong = why.TailTooLong
unstarted fault.NoMemory = why.NoMemory

-- A run of a program with its words, on a disk and a console: why it ended, after how many steps and with which PC, and the disk and the
-- console then. If the program cannot be started, there is no step.
abbrev pub IsRun : {S C : Type 0} → (S → Image) → (S → ℕ) → (C → Dialog) → List ℕ → List (List ℕ) → Mounted S → C → ℕ → Why → ℕ → ℕ → Mounted S → C → Type 0
IsRun {S} {C} sectors faults dialog file words disk console limit end turns pc left kept =
    ((cpu : Cpu) × (memory : List ℕ) × (new : RunState S C) × IsStart file words (Ok (cpu, memory))
    × TurnsEnd sectors faults dialog limit (record { machine = machine cpu memory; system = new_system disk console }) end turns new
    × (pc ≡ new.machine.cpu.pc) × (left ≡ new.system.disk) × (kept ≡ new.system.terminal.console))
    ⊎ ((no : StartFault) × IsStart file words (Err no) × (end ≡ unstarted no) × (turns ≡ 0) × (pc ≡ 0x0100) × (left ≡ disk) × (kept ≡ console))
