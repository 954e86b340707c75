-- The steps of a run, one by one.
use Rattle.std.specs.Prelude.{◌≡◌, ◌<◌, ◌≤◌, ◌+◌, ◌++◌, ◌∷◌, ◌⊎◌, [], ℕ, true, false, List, Option, None, Some, Ok, Err, length}
use Rattle.z80_cpu.specs.State.{machine}
use Rattle.z80_cpu.specs.declared.registers.Cpu.{Cpu}
use Rattle.z80_machine.specs.Turn.{bytes_at_pc}
use Rattle.cpm_console.specs.Dialog.{Dialog}
use Rattle.cpm_disk.specs.Calls.{Mounted}
use Rattle.cpm_disk.specs.Image.{Image}
use Rattle.cpm_bdos.specs.System.{new_system}
use Rattle.cpm_run.specs.declared.ending.Why.{Why}
use Rattle.cpm_run.specs.declared.ending.Why.TheVariants as why
use Rattle.cpm_run.specs.declared.fault.StartFault.{StartFault}
use Rattle.cpm_run.specs.declared.recording.Record.{Record}
use Rattle.cpm_run.specs.declared.recording.TraceStep.{TraceStep}
use Rattle.cpm_run.specs.declared.recording.Wish.{Wish}
use Rattle.cpm_run.specs.declared.tracing.Left.{Left}
use Rattle.cpm_run.specs.Records.{Keeps}
use Rattle.cpm_run.specs.Run.{unstarted}
use Rattle.cpm_run.specs.Start.{IsStart}
use Rattle.cpm_run.specs.Turns.{IsTurn, RunState, is_finished}

-- a step as a trace shows it: its number, the registers before and after, and the four bytes from PC on
abbrev pub trace_step : {S C : Type 0} → ℕ → RunState S C → RunState S C → TraceStep
trace_step number old new = record { number = number; before = old.machine.cpu; bytes = bytes_at_pc old.machine; after = new.machine.cpu }

-- These steps, one after the other, numbered from 1. None ends the run, and before each the program has not finished.
pub data WalksTo {S C : Type 0} (sectors : S → Image) (faults : S → ℕ) (dialog : C → Dialog) : List TraceStep → RunState S C → RunState S C → Type 0 where
  none : (s : RunState S C) → WalksTo sectors faults dialog [] s s
  more : (steps : List TraceStep) (old mid new : RunState S C) → WalksTo sectors faults dialog steps old mid → is_finished mid.machine.cpu.pc ≡ false → IsTurn sectors faults dialog mid None new
      → WalksTo sectors faults dialog (steps ++ trace_step (length steps + 1) mid new ∷ []) old new

-- How a run of at most `limit` steps ends, with all its steps. The program has finished, which is tested before the limit; or the limit is
-- reached; or a last step, which counts too, ends the run.
abbrev pub WalkEnds : {S C : Type 0} → (S → Image) → (S → ℕ) → (C → Dialog) → ℕ → RunState S C → Why → List TraceStep → RunState S C → Type 0
WalkEnds {S} {C} sectors faults dialog limit old end steps new =
    (WalksTo sectors faults dialog steps old new × (length steps ≤ limit) × (is_finished new.machine.cpu.pc ≡ true) × (end ≡ why.Finished))
    ⊎ ((WalksTo sectors faults dialog steps old new × (length steps ≡ limit) × (is_finished new.machine.cpu.pc ≡ false) × (end ≡ why.TurnLimit))
    ⊎ ((before : List TraceStep) × (last : RunState S C) × (steps ≡ before ++ trace_step (length before + 1) last new ∷ []) × (length before < limit)
    × WalksTo sectors faults dialog before old last × (is_finished last.machine.cpu.pc ≡ false) × IsTurn sectors faults dialog last (Some end) new))

-- The steps that lead to this end, their number, and what is kept of them.
abbrev pub KeepsWalk : {S C : Type 0} → (S → Image) → (S → ℕ) → (C → Dialog) → ℕ → Wish → RunState S C → Why → ℕ → RunState S C → Option Record → Type 0
KeepsWalk sectors faults dialog limit wish old end turns new kept =
    (steps : List TraceStep) × WalkEnds sectors faults dialog limit old end steps new × (turns ≡ length steps) × Keeps wish steps kept

-- what a run leaves besides its disk and its console
abbrev pub left_by_run : {S C : Type 0} → RunState S C → Left
left_by_run s = record { cpu = s.machine.cpu; memory = s.machine.memory; dma = s.system.dma; user = s.system.user }

-- A run of a program with its words, on a disk and a console, that keeps what it was asked to: the machine and the system at the end, and what
-- is kept of its steps. If the program cannot be started, there is no step.
abbrev pub IsTraced : {S C : Type 0} → (S → Image) → (S → ℕ) → (C → Dialog) → List ℕ → List (List ℕ) → Mounted S → C → ℕ → Wish → Why → ℕ → Option Left → Option Record → Type 0
IsTraced {S} {C} sectors faults dialog file words disk console limit wish end turns state kept =
    ((cpu : Cpu) × (memory : List ℕ) × (new : RunState S C) × IsStart file words (Ok (cpu, memory))
    × KeepsWalk sectors faults dialog limit wish (record { machine = machine cpu memory; system = new_system disk console }) end turns new kept
    × (state ≡ Some (left_by_run new)))
    ⊎ ((no : StartFault) × IsStart file words (Err no) × (end ≡ unstarted no) × (turns ≡ 0) × (state ≡ None) × (kept ≡ None))
