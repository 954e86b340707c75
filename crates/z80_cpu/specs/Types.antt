-- The types of an instruction's parts and of the machine, collected for the files of this crate.
pub use Rattle.z80_instr.specs.declared.Register.{Register}
pub use Rattle.z80_instr.specs.declared.IndexRegister.{IndexRegister}
pub use Rattle.z80_instr.specs.declared.Memory.{Memory as MemoryOperand}
pub use Rattle.z80_instr.specs.declared.Operand.{Operand}
pub use Rattle.z80_instr.specs.declared.Pointer.{Pointer}
pub use Rattle.z80_instr.specs.declared.RegisterPair.{RegisterPair}
pub use Rattle.z80_instr.specs.declared.WordRegister.{WordRegister}
pub use Rattle.z80_instr.specs.declared.HlOrIndex.{HlOrIndex}
pub use Rattle.z80_instr.specs.declared.Addend.{Addend}
pub use Rattle.z80_instr.specs.declared.StackOperand.{StackOperand}
pub use Rattle.z80_instr.specs.declared.Cond.{Cond}
pub use Rattle.z80_instr.specs.declared.ShortCond.{ShortCond}
pub use Rattle.z80_instr.specs.declared.AluOperation.{AluOperation}
pub use Rattle.z80_instr.specs.declared.Rotation.{Rotation}
pub use Rattle.z80_instr.specs.declared.Octal.{Octal}
pub use Rattle.z80_instr.specs.declared.InterruptMode.{InterruptMode}
pub use Rattle.z80_instr.specs.declared.BlockOperation.{BlockOperation}
pub use Rattle.z80_instr.specs.declared.BlockStep.{BlockStep}
pub use Rattle.z80_instr.specs.declared.Instr.{Instr}
pub use Rattle.z80_cpu.specs.declared.alu.flags.Flags.{Flags}
pub use Rattle.z80_cpu.specs.declared.registers.Registers.{Registers}
pub use Rattle.z80_cpu.specs.declared.registers.Cpu.{Cpu}
