-- Jumps on conditions, with PC at the next instruction.
--
-- Z80 CPU User Manual (Zilog UM0080), "Jump Group".
use Rattle.std.specs.Prelude.{ℕ, Bool, not, if◌then◌else◌, ℤ}
use Rattle.z80_cpu.specs.Alu.Flags.{is_zero}
use Rattle.z80_cpu.specs.Types.{Cpu}
use Rattle.z80_cpu.specs.State.{with_main, with_pc, one_less, displaced}

abbrev pub jumped_if : Bool → ℕ → Cpu → Cpu
jumped_if holds address cpu = if holds then with_pc address cpu else cpu

-- DJNZ: B goes down by 1, and if it is not 0 then, there is a jump
abbrev pub counted_and_jumped : ℤ → Cpu → Cpu
counted_and_jumped e cpu =
    let count = one_less cpu.main.b in
    jumped_if (not (is_zero count)) (displaced cpu.pc e) (with_main (record cpu.main { b = count }) cpu)
