-- The machine: its registers, and its memory of 65,536 bytes as a list.
--
-- Z80 CPU User Manual (Zilog UM0080), "CPU Registers". A word in two registers or two bytes is 256 times its high byte plus its low byte.
-- Addresses are taken modulo 65,536.
use Rattle.std.specs.Prelude.{ℕ, ◌+◌, ◌-◌, ◌*◌, ◌/◌, ◌%◌, List, ℤ, slice_index, slice_set}
use Rattle.std.specs.Int.{w16, cast_unsigned}
use Rattle.z80_cpu.specs.Alu.Flags.{byte_of, flags_of}
use Rattle.z80_cpu.specs.Types.{Register, IndexRegister, RegisterPair, WordRegister, HlOrIndex, Addend, StackOperand, Flags, Registers, Cpu}

pub record Machine : Type 0 where
  pub cpu : Cpu
  pub memory : List ℕ

abbrev pub machine : Cpu → List ℕ → Machine
machine cpu memory = record { cpu = cpu; memory = memory }

-- Changes of one part.

abbrev pub on_cpu : (Cpu → Cpu) → Machine → Machine
on_cpu change m = record m { cpu = change m.cpu }

abbrev pub with_main : Registers → Cpu → Cpu
with_main registers cpu = record cpu { main = registers }

abbrev pub with_a : ℕ → Cpu → Cpu
with_a value cpu = with_main (record cpu.main { a = value }) cpu

abbrev pub with_flags : Flags → Cpu → Cpu
with_flags flags cpu = with_main (record cpu.main { flags = flags }) cpu

abbrev pub with_a_and_flags : ℕ → Flags → Cpu → Cpu
with_a_and_flags value flags cpu = with_main (record cpu.main { a = value; flags = flags }) cpu

abbrev pub with_pc : ℕ → Cpu → Cpu
with_pc address cpu = record cpu { pc = address }

-- Addresses.

-- an address n higher, and n lower
abbrev pub up_by : ℕ → ℕ → ℕ
up_by n address = (address + n) % 65536

abbrev pub down_by : ℕ → ℕ → ℕ
down_by n address = (address + (65536 - n)) % 65536

-- a byte less 1, modulo 256
abbrev pub one_less : ℕ → ℕ
one_less value = (value + 255) % 256

-- the address at a signed distance from another
abbrev pub displaced : ℕ → ℤ → ℕ
displaced address d = (address + cast_unsigned w16 d) % 65536

-- Memory.

abbrev pub byte_at : ℕ → List ℕ → ℕ
byte_at address memory = slice_index memory address

abbrev pub word_at : ℕ → List ℕ → ℕ
word_at address memory = 256 * byte_at (up_by 1 address) memory + byte_at address memory

abbrev pub with_word_at : ℕ → ℕ → List ℕ → List ℕ
with_word_at address word memory = slice_set (slice_set memory address (word % 256)) (up_by 1 address) (word / 256)

abbrev pub store_byte : ℕ → ℕ → Machine → Machine
store_byte address value m = record m { memory = slice_set m.memory address value }

abbrev pub store_word : ℕ → ℕ → Machine → Machine
store_word address word m = record m { memory = with_word_at address word m.memory }

-- Registers of 8 bits.

abbrev pub register_value : Register → Registers → ℕ
register_value Register.B r = r.b
register_value Register.C r = r.c
register_value Register.D r = r.d
register_value Register.E r = r.e
register_value Register.H r = r.h
register_value Register.L r = r.l
register_value Register.A r = r.a

abbrev pub with_register : Register → ℕ → Registers → Registers
with_register Register.B value r = record r { b = value }
with_register Register.C value r = record r { c = value }
with_register Register.D value r = record r { d = value }
with_register Register.E value r = record r { e = value }
with_register Register.H value r = record r { h = value }
with_register Register.L value r = record r { l = value }
with_register Register.A value r = record r { a = value }

-- Pairs of 8-bit registers.

abbrev pub af : Registers → ℕ
af r = 256 * r.a + byte_of r.flags

abbrev pub bc : Registers → ℕ
bc r = 256 * r.b + r.c

abbrev pub de : Registers → ℕ
de r = 256 * r.d + r.e

abbrev pub hl : Registers → ℕ
hl r = 256 * r.h + r.l

abbrev pub with_af : ℕ → Registers → Registers
with_af word r = record r { a = word / 256; flags = flags_of (word % 256) }

abbrev pub with_bc : ℕ → Registers → Registers
with_bc word r = record r { b = word / 256; c = word % 256 }

abbrev pub with_de : ℕ → Registers → Registers
with_de word r = record r { d = word / 256; e = word % 256 }

abbrev pub with_hl : ℕ → Registers → Registers
with_hl word r = record r { h = word / 256; l = word % 256 }

-- Registers of 16 bits.

abbrev pub index_value : IndexRegister → Cpu → ℕ
index_value IndexRegister.Ix cpu = cpu.ix
index_value IndexRegister.Iy cpu = cpu.iy

abbrev pub with_index : IndexRegister → ℕ → Cpu → Cpu
with_index IndexRegister.Ix word cpu = record cpu { ix = word }
with_index IndexRegister.Iy word cpu = record cpu { iy = word }

abbrev pub pair_value : RegisterPair → Cpu → ℕ
pair_value RegisterPair.Bc cpu = bc cpu.main
pair_value RegisterPair.De cpu = de cpu.main
pair_value RegisterPair.Hl cpu = hl cpu.main
pair_value RegisterPair.Sp cpu = cpu.sp

abbrev pub with_pair : RegisterPair → ℕ → Cpu → Cpu
with_pair RegisterPair.Bc word cpu = record cpu { main = with_bc word cpu.main }
with_pair RegisterPair.De word cpu = record cpu { main = with_de word cpu.main }
with_pair RegisterPair.Hl word cpu = record cpu { main = with_hl word cpu.main }
with_pair RegisterPair.Sp word cpu = record cpu { sp = word }

abbrev pub word_value : WordRegister → Cpu → ℕ
word_value (WordRegister.Pair pair) cpu = pair_value pair cpu
word_value (WordRegister.Index index) cpu = index_value index cpu

abbrev pub with_word : WordRegister → ℕ → Cpu → Cpu
with_word (WordRegister.Pair pair) word cpu = with_pair pair word cpu
with_word (WordRegister.Index index) word cpu = with_index index word cpu

abbrev pub hl_or_index_value : HlOrIndex → Cpu → ℕ
hl_or_index_value HlOrIndex.Hl cpu = hl cpu.main
hl_or_index_value (HlOrIndex.Index index) cpu = index_value index cpu

abbrev pub with_hl_or_index : HlOrIndex → ℕ → Cpu → Cpu
with_hl_or_index HlOrIndex.Hl word cpu = record cpu { main = with_hl word cpu.main }
with_hl_or_index (HlOrIndex.Index index) word cpu = with_index index word cpu

-- the value that ADD IX or ADD IY adds
abbrev pub addend_value : IndexRegister → Addend → Cpu → ℕ
addend_value index Addend.Bc cpu = bc cpu.main
addend_value index Addend.De cpu = de cpu.main
addend_value index Addend.Itself cpu = index_value index cpu
addend_value index Addend.Sp cpu = cpu.sp

abbrev pub stack_operand_value : StackOperand → Cpu → ℕ
stack_operand_value StackOperand.Bc cpu = bc cpu.main
stack_operand_value StackOperand.De cpu = de cpu.main
stack_operand_value StackOperand.Hl cpu = hl cpu.main
stack_operand_value StackOperand.Af cpu = af cpu.main
stack_operand_value (StackOperand.Index index) cpu = index_value index cpu

abbrev pub with_stack_operand : StackOperand → ℕ → Cpu → Cpu
with_stack_operand StackOperand.Bc word cpu = record cpu { main = with_bc word cpu.main }
with_stack_operand StackOperand.De word cpu = record cpu { main = with_de word cpu.main }
with_stack_operand StackOperand.Hl word cpu = record cpu { main = with_hl word cpu.main }
with_stack_operand StackOperand.Af word cpu = record cpu { main = with_af word cpu.main }
with_stack_operand (StackOperand.Index index) word cpu = with_index index word cpu
