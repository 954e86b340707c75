-- Registers by their names.
use Rattle.std.specs.Prelude.{◌∷◌, [], ℕ, List, Option, codes, find}
use Rattle.std.specs.Str.{str_eq_ignore_ascii_case}
use Rattle.z80_cpu.specs.State.{af, bc, de, hl}
use Rattle.z80_cpu.specs.declared.registers.Cpu.{Cpu}
use Rattle.state_text.specs.declared.registers.RegisterName.{RegisterName}
use Rattle.state_text.specs.declared.registers.RegisterName.TheVariants as name

-- the value of a register or of a pair of registers
abbrev pub named_register : RegisterName → Cpu → ℕ
named_register name.A cpu = cpu.main.a
named_register name.B cpu = cpu.main.b
named_register name.C cpu = cpu.main.c
named_register name.D cpu = cpu.main.d
named_register name.E cpu = cpu.main.e
named_register name.H cpu = cpu.main.h
named_register name.L cpu = cpu.main.l
named_register name.Af cpu = af cpu.main
named_register name.Bc cpu = bc cpu.main
named_register name.De cpu = de cpu.main
named_register name.Hl cpu = hl cpu.main
named_register name.Ix cpu = cpu.ix
named_register name.Iy cpu = cpu.iy
named_register name.Sp cpu = cpu.sp

abbrev pub register_name : RegisterName → List ℕ
register_name name.A = codes "A"
register_name name.B = codes "B"
register_name name.C = codes "C"
register_name name.D = codes "D"
register_name name.E = codes "E"
register_name name.H = codes "H"
register_name name.L = codes "L"
register_name name.Af = codes "AF"
register_name name.Bc = codes "BC"
register_name name.De = codes "DE"
register_name name.Hl = codes "HL"
register_name name.Ix = codes "IX"
register_name name.Iy = codes "IY"
register_name name.Sp = codes "SP"

abbrev pub every_register : List RegisterName
every_register =
    name.A ∷ name.B ∷ name.C ∷ name.D ∷ name.E ∷ name.H ∷ name.L ∷ name.Af ∷ name.Bc ∷ name.De ∷ name.Hl ∷ name.Ix ∷ name.Iy ∷ name.Sp ∷ []

-- the register with this name, in upper or lower case
abbrev pub register_named : List ℕ → Option RegisterName
register_named word = find (λ register. str_eq_ignore_ascii_case (register_name register) word) every_register

-- the greatest value of a register of one byte, or of two
abbrev pub register_limit : RegisterName → ℕ
register_limit name.A = 0xFF
register_limit name.B = 0xFF
register_limit name.C = 0xFF
register_limit name.D = 0xFF
register_limit name.E = 0xFF
register_limit name.H = 0xFF
register_limit name.L = 0xFF
register_limit pair = 0xFFFF
