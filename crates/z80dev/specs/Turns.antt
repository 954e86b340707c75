-- Steps of a program by its statements: where each leads, by flags, B and addresses. Nothing is decoded.
use Rattle.std.specs.Prelude.{◌≡◌, ℕ, zero, suc, ◌+◌, Bool, true, if◌then◌else◌, List, Option, Some, None, length, nat_eq, slice_get, slice_range}
use Rattle.common.specs.declared.limits.TheConstants.{FIRST_PLACE}
use Rattle.z80_instr.specs.declared.Instr.{Instr}
use Rattle.z80_instr.specs.declared.ShortCond.{ShortCond}
use Rattle.z80_cpu.specs.declared.alu.flags.Flags.{Flags}
use Rattle.z80_cpu.specs.declared.registers.Cpu.{Cpu}
use Rattle.z80_machine.specs.Types.{Step}
use Rattle.z80_cpu.specs.State.{Machine, on_cpu, with_main, with_pc, one_less}
use Rattle.z80_cpu.specs.Operands.{short_condition_holds}
use Rattle.z80_cpu.specs.Effect.{instruction_effect}
use Rattle.z80_machine.specs.Turn.{IsStep}
use Rattle.relax.specs.Choice.{Choice, place}
use Rattle.z80_instr.specs.declared.Branch.{Branch}
use Rattle.z80_instr.specs.declared.Branch.TheVariants.{Relative, CountDown}
use Rattle.asm_module.specs.Program.Statement.{Statement, Code, Data, Space, Jump, Short}
use Rattle.asm_module.specs.Program.Pieces.{valued}
use Rattle.z80_form.specs.Numbers.{with_numbers}
use Rattle.zlink.specs.Reads.{shape}

-- the memory has the file from 0100H on, where a program begins
abbrev pub HoldsFile : List ℕ → List ℕ → Type 0
HoldsFile memory file = slice_range memory FIRST_PLACE (FIRST_PLACE + length file) ≡ file

-- The memory has the file, and PC is at statement k of the program.
pub record IsAtStatement (file : List ℕ) (program : List Statement) (c : Choice) (k : ℕ) (s : Statement) (m : Machine) : Type 0 where
  pub held : HoldsFile m.memory file
  pub statement : slice_get program k ≡ Some s
  pub pc : m.cpu.pc ≡ place c (shape program) k

-- whether a jump is taken, by the condition that it may have
abbrev pub is_met : Option ShortCond → Flags → Bool
is_met None flags = true
is_met (Some condition) flags = short_condition_holds condition flags

-- a jump to one address if its condition holds, and otherwise to another: only PC changes
abbrev pub jumped : Option ShortCond → ℕ → ℕ → Cpu → Cpu
jumped condition there next cpu = with_pc (if is_met condition cpu.main.flags then there else next) cpu

-- DJNZ: B goes down by 1, and PC goes to one address if B is not 0 then, and otherwise to another
abbrev pub count_down_jump : ℕ → ℕ → Cpu → Cpu
count_down_jump there next cpu =
    let count = one_less cpu.main.b in
    with_pc (if nat_eq count 0 then next else there) (with_main (record cpu.main { b = count }) cpu)

abbrev pub branched : Branch → ℕ → ℕ → Cpu → Cpu
branched (Relative condition) there next cpu = jumped condition there next cpu
branched CountDown there next cpu = count_down_jump there next cpu

-- What the step of an instruction answers and leaves, if the next instruction is at this address. HALT changes nothing: PC does not move.
abbrev pub IsExecuted : Instr → ℕ → Step → Machine → Machine → Type 0
IsExecuted Instr.Halt next step old new = (step ≡ Step.Halted) × (new ≡ old)
IsExecuted instr next step old new = (step ≡ Step.Done) × (new ≡ instruction_effect instr (on_cpu (with_pc next) old))

-- What the step of statement k answers and leaves, by addresses. An instruction is carried out with its expressions evaluated. There is
-- no step for Data and Space.
abbrev pub IsTurnBy : (ℕ → ℕ) → ℕ → Statement → Step → Machine → Machine → Type 0
IsTurnBy places k (Code instr numbers) step old new = IsExecuted (with_numbers (valued places numbers) instr) (places (k + 1)) step old new
IsTurnBy places k (Data items) step old new = ⊥
IsTurnBy places k (Space size fill) step old new = ⊥
IsTurnBy places k (Jump condition target) step old new = (step ≡ Step.Done) × (new ≡ on_cpu (jumped condition (places target) (places (k + 1))) old)
IsTurnBy places k (Short branch target) step old new = (step ≡ Step.Done) × (new ≡ on_cpu (branched branch (places target) (places (k + 1))) old)

-- n steps by statements, with the bytes of the file in memory before each.
abbrev pub Walks : List ℕ → List Statement → Choice → ℕ → Machine → Machine → Type 0
Walks file program c zero old new = new ≡ old
Walks file program c (suc n) old new =
    (k : ℕ) × (s : Statement) × (step : Step) × (next : Machine) × IsAtStatement file program c k s old
    × IsTurnBy (place c (shape program)) k s step old next × Walks file program c n next new

-- n steps of the machine.
abbrev pub MakesSteps : ℕ → Machine → Machine → Type 0
MakesSteps zero old new = new ≡ old
MakesSteps (suc n) old new = (step : Step) × (next : Machine) × IsStep step old next × MakesSteps n next new
