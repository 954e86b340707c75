-- What an instruction's operands and conditions stand for.
--
-- Z80 CPU User Manual (Zilog UM0080), "Addressing Modes" and the table of conditions of "Jump Group".
use Rattle.std.specs.Prelude.{ℕ, Bool, not}
use Rattle.z80_cpu.specs.Types.{MemoryOperand, Operand, Pointer, Cond, ShortCond, Flags, Cpu}
use Rattle.z80_cpu.specs.State.{Machine, on_cpu, with_main, byte_at, store_byte, displaced, register_value, with_register, index_value, bc, de, hl}

-- (HL), (IX+d), (IY+d)
abbrev pub address_of : MemoryOperand → Cpu → ℕ
address_of MemoryOperand.Hl cpu = hl cpu.main
address_of (MemoryOperand.Indexed index d) cpu = displaced (index_value index cpu) d

-- (BC), (DE), (nn)
abbrev pub pointer_address : Pointer → Cpu → ℕ
pointer_address Pointer.Bc cpu = bc cpu.main
pointer_address Pointer.De cpu = de cpu.main
pointer_address (Pointer.Address nn) cpu = nn

abbrev pub operand_value : Operand → Machine → ℕ
operand_value (Operand.Register register) m = register_value register m.cpu.main
operand_value (Operand.Memory place) m = byte_at (address_of place m.cpu) m.memory

abbrev pub with_operand : Operand → ℕ → Machine → Machine
with_operand (Operand.Register register) value m = on_cpu (with_main (with_register register value m.cpu.main)) m
with_operand (Operand.Memory place) value m = store_byte (address_of place m.cpu) value m

abbrev pub condition_holds : Cond → Flags → Bool
condition_holds Cond.NotZero f = not f.zero
condition_holds Cond.Zero f = f.zero
condition_holds Cond.NotCarry f = not f.carry
condition_holds Cond.Carry f = f.carry
condition_holds Cond.ParityOdd f = not f.parity_overflow
condition_holds Cond.ParityEven f = f.parity_overflow
condition_holds Cond.Plus f = not f.sign
condition_holds Cond.Minus f = f.sign

abbrev pub short_condition_holds : ShortCond → Flags → Bool
short_condition_holds ShortCond.NotZero f = not f.zero
short_condition_holds ShortCond.Zero f = f.zero
short_condition_holds ShortCond.NotCarry f = not f.carry
short_condition_holds ShortCond.Carry f = f.carry
