-- A run of a program under CP/M, step by step.
use Rattle.std.specs.Prelude.{◌≡◌, ◌+◌, ◌-◌, ◌/◌, ◌%◌, ◌==◌, ◌&&◌, ◌||◌, ℕ, Bool, false, nat_le, List, Option, Some, None, Result, Ok, Err, if◌then◌else◌}
use Rattle.z80_cpu.specs.State.{Machine, machine}
use Rattle.z80_cpu.specs.Stack.{returned}
use Rattle.z80_machine.specs.Turn.{IsStep}
use Rattle.z80_machine.specs.Types.{Step}
use Rattle.z80_turns.specs.declared.outcome.Step.TheVariants as step
use Rattle.z80_cpu.specs.declared.registers.Cpu.{Cpu}
use Rattle.cpm_console.specs.Dialog.{Dialog}
use Rattle.cpm_disk.specs.Image.{Image}
use Rattle.cpm_disk.specs.declared.control.stop.Stop.{Stop}
use Rattle.cpm_bdos.specs.declared.outcome.After.{After}
use Rattle.cpm_bdos.specs.declared.outcome.After.TheVariants as after
use Rattle.cpm_bdos.specs.Answer.{BiosAnswers, CallAnswers}
use Rattle.cpm_bdos.specs.System.{System}
use Rattle.cpm_run.specs.declared.ending.Why.{Why}
use Rattle.cpm_run.specs.declared.ending.Why.TheVariants as why

-- the state of a run: the machine, and the system with its disk and its console
pub record RunState (S C : Type 0) : Type 0 where
  pub machine : Machine
  pub system : System S C

-- the address at which a step is a call of the BDOS
abbrev pub bdos : ℕ
bdos = 0xFE06

-- the address of the first entry of the BIOS
abbrev pub bios : ℕ
bios = 0xFF00

-- A program has finished when PC is at the cold or the warm start of the BIOS, its entries 0 and 1.
abbrev pub is_finished : ℕ → Bool
is_finished pc = (pc == bios) || (pc == bios + 3)

-- the number of the BIOS entry at this address, from 2 to 16; each has three bytes
abbrev pub bios_entry : ℕ → Option ℕ
bios_entry pc = if nat_le (bios + 6) pc && nat_le pc (bios + 48) && ((pc - bios) % 3 == 0) then Some ((pc - bios) / 3) else None

-- What is at an address: the BDOS, an entry of the BIOS, or the program's own bytes.
pub data Place : Type 0 where
  Call : Place
  Entry : ℕ → Place
  Program : Place

abbrev pub entry_or_program : Option ℕ → Place
entry_or_program (Some n) = Entry n
entry_or_program None = Program

abbrev pub place_at_pc : ℕ → Place
place_at_pc pc = if pc == bdos then Call else entry_or_program (bios_entry pc)

-- why a step of the machine ends the run, if it does
abbrev pub step_end : Step → Option Why
step_end step.Done = None
step_end step.Halted = Some why.Halted
step_end step.Undocumented = Some why.Undocumented

-- The end of a system call: it returns to the program through the stack, or the run ends.
abbrev pub Comes : Result After Stop → Cpu → List ℕ → Option Why → Machine → Type 0
Comes (Ok after.Return) cpu memory end new = (end ≡ None) × (new ≡ machine (returned memory cpu) memory)
Comes (Ok after.WarmBoot) cpu memory end new = (end ≡ Some why.Finished) × (new ≡ machine cpu memory)
Comes (Err stop) cpu memory end new = (end ≡ Some (why.Stopped stop)) × (new ≡ machine cpu memory)

-- A step at such an address: what it leaves, and why it ends the run, if it does.
abbrev pub TurnAt : {S C : Type 0} → (S → Image) → (S → ℕ) → (C → Dialog) → Place → RunState S C → Option Why → RunState S C → Type 0
TurnAt sectors faults dialog Call old end new =
    (answer : Result After Stop) × (cpu : Cpu) × (memory : List ℕ)
    × CallAnswers sectors faults dialog old.system new.system old.machine.cpu cpu old.machine.memory memory answer × Comes answer cpu memory end new.machine
TurnAt sectors faults dialog (Entry n) old end new =
    (answer : Result After Stop) × (cpu : Cpu)
    × BiosAnswers dialog old.system new.system n old.machine.cpu cpu answer × Comes answer cpu old.machine.memory end new.machine
TurnAt sectors faults dialog Program old end new =
    (outcome : Step) × IsStep outcome old.machine new.machine × (new.system ≡ old.system) × (end ≡ step_end outcome)

abbrev pub IsTurn : {S C : Type 0} → (S → Image) → (S → ℕ) → (C → Dialog) → RunState S C → Option Why → RunState S C → Type 0
IsTurn sectors faults dialog old end new = TurnAt sectors faults dialog (place_at_pc old.machine.cpu.pc) old end new

-- This number of steps. None ends the run, and before each the program has not finished.
pub data Goes {S C : Type 0} (sectors : S → Image) (faults : S → ℕ) (dialog : C → Dialog) : ℕ → RunState S C → RunState S C → Type 0 where
  none : (s : RunState S C) → Goes sectors faults dialog 0 s s
  more : (n : ℕ) (old mid new : RunState S C) → Goes sectors faults dialog n old mid → is_finished mid.machine.cpu.pc ≡ false → IsTurn sectors faults dialog mid None new → Goes sectors faults dialog (n + 1) old new
