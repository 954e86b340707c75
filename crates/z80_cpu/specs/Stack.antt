-- The stack: it grows to lower addresses, and SP has the address of the last word pushed.
--
-- Z80 CPU User Manual (Zilog UM0080), PUSH and POP of "16-Bit Load Group", and "Call and Return Group".
use Rattle.std.specs.Prelude.{ℕ, List}
use Rattle.z80_cpu.specs.Types.{Cpu}
use Rattle.z80_cpu.specs.State.{Machine, on_cpu, with_pc, word_at, with_word_at, up_by, down_by}

abbrev pub pushed : ℕ → Machine → Machine
pushed word m = record { cpu = record m.cpu { sp = down_by 2 m.cpu.sp }; memory = with_word_at (down_by 2 m.cpu.sp) word m.memory }

-- the word on top, and the registers without it
abbrev pub top : Cpu → List ℕ → ℕ
top cpu memory = word_at cpu.sp memory

abbrev pub popped : Cpu → Cpu
popped cpu = record cpu { sp = up_by 2 cpu.sp }

-- CALL and RST: the address of the next instruction is pushed
abbrev pub called : ℕ → Machine → Machine
called address m = on_cpu (with_pc address) (pushed m.cpu.pc m)

-- RET
abbrev pub returned : List ℕ → Cpu → Cpu
returned memory cpu = with_pc (top cpu memory) (popped cpu)
