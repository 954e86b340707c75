-- Exchanges of registers.
--
-- Z80 CPU User Manual (Zilog UM0080), "Exchange, Block Transfer, and Search Group".
use Rattle.z80_cpu.specs.Types.{Registers, Cpu}

-- EX DE,HL
abbrev pub ex_de_hl : Cpu → Cpu
ex_de_hl cpu = let r = cpu.main in record cpu { main = record r { d = r.h; e = r.l; h = r.d; l = r.e } }

-- EX AF,AF'
abbrev pub ex_af : Cpu → Cpu
ex_af cpu = record cpu {
  main = record cpu.main { a = cpu.shadow.a; flags = cpu.shadow.flags };
  shadow = record cpu.shadow { a = cpu.main.a; flags = cpu.main.flags };
}

-- EXX: all but A and F
abbrev pub with_others_of : Registers → Registers → Registers
with_others_of other r = record other { a = r.a; flags = r.flags }

abbrev pub exx : Cpu → Cpu
exx cpu = record cpu { main = with_others_of cpu.shadow cpu.main; shadow = with_others_of cpu.main cpu.shadow }
