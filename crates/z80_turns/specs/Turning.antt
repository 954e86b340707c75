-- The step of an instruction: PC moves to the next instruction, and this one is carried out.
use Rattle.std.specs.Prelude.{◌≡◌, ℕ}
use Rattle.z80_turns.specs.Types.{Instr, Step}
use Rattle.z80_cpu.specs.State.{Machine, on_cpu, with_pc, up_by}
use Rattle.z80_cpu.specs.Effect.{instruction_effect}

-- the machine after an instruction of `size` bytes at PC is carried out, with PC moved to the next one first
abbrev pub carried_out : Instr → ℕ → Machine → Machine
carried_out instr size m = instruction_effect instr (on_cpu (with_pc (up_by size m.cpu.pc)) m)

-- What the step of an instruction answers and leaves. HALT changes nothing: PC does not move.
abbrev pub IsTurnOf : Instr → ℕ → Step → Machine → Machine → Type 0
IsTurnOf Instr.Halt size step old new = (step ≡ Step.Halted) × (new ≡ old)
IsTurnOf instr size step old new = (step ≡ Step.Done) × (new ≡ carried_out instr size old)
