-- Block transfer, search, input and output, one byte a step. A repeating instruction that has to repeat moves PC back to itself.
--
-- Z80 CPU User Manual (Zilog UM0080), LDI to CPDR of "Exchange, Block Transfer, and Search Group", INI to OTDR of "Input
-- and Output Group".
use Rattle.std.specs.Prelude.{ℕ, Bool, true, false, not, ◌&&◌, if◌then◌else◌}
use Rattle.z80_cpu.specs.Alu.Flags.{is_zero}
use Rattle.z80_cpu.specs.Alu.Bytes.{difference_of, subtract_flags}
use Rattle.z80_cpu.specs.Types.{BlockOperation, BlockStep, Flags, Cpu}
use Rattle.z80_cpu.specs.State.{Machine, on_cpu, with_main, with_pc, byte_at, store_byte, up_by, down_by, one_less, bc, de, hl, with_bc, with_de, with_hl}

-- what IN reads; this project's choice, since there are no ports
abbrev pub port_value : ℕ
port_value = 0xFF

-- the next address up or down
abbrev pub stepped : BlockStep → ℕ → ℕ
stepped BlockStep.Increment address = up_by 1 address
stepped BlockStep.Decrement address = down_by 1 address
stepped BlockStep.IncrementRepeat address = up_by 1 address
stepped BlockStep.DecrementRepeat address = down_by 1 address

abbrev pub repeats : BlockStep → Bool
repeats BlockStep.Increment = false
repeats BlockStep.Decrement = false
repeats BlockStep.IncrementRepeat = true
repeats BlockStep.DecrementRepeat = true

-- If a repeating instruction has to repeat, PC goes back by the two bytes of the instruction.
abbrev pub again_if : Bool → BlockStep → Cpu → Cpu
again_if more step cpu = if repeats step && more then with_pc (down_by 2 cpu.pc) cpu else cpu

-- LDI, LDD: the byte at (HL) is copied to (DE)
abbrev pub copied : Machine → Machine
copied m = store_byte (de m.cpu.main) (byte_at (hl m.cpu.main) m.memory) m

-- LDI, LDD: HL and DE go up or down by 1, and BC down by 1. H and N are 0, and P/V says whether BC is not 0 then.
abbrev pub load_flags : ℕ → Flags → Flags
load_flags count f = record f { half_carry = false; parity_overflow = not (is_zero count); subtract = false }

abbrev pub loaded : BlockStep → Cpu → Cpu
loaded step cpu =
    let r = cpu.main in
    let count = down_by 1 (bc r) in
    let counted = with_bc count (with_de (stepped step (de r)) (with_hl (stepped step (hl r)) r)) in
    again_if (not (is_zero count)) step (with_main (record counted { flags = load_flags count r.flags }) cpu)

-- CPI, CPD: A is compared with (HL), and BC goes down by 1. S, Z and H are those of A - (HL), P/V says whether BC is not 0 then, and N is
-- 1.
abbrev pub compare_flags : ℕ → ℕ → ℕ → Flags → Flags
compare_flags a value count f = record (subtract_flags a value false f) { parity_overflow = not (is_zero count); carry = f.carry }

abbrev pub compared : BlockStep → ℕ → Cpu → Cpu
compared step value cpu =
    let r = cpu.main in
    let count = down_by 1 (bc r) in
    let counted = with_bc count (with_hl (stepped step (hl r)) r) in
    again_if (not (is_zero count) && not (is_zero (difference_of r.a value false))) step
    (with_main (record counted { flags = compare_flags r.a value count r.flags }) cpu)

-- INI to OTDR: B goes down by 1. Z says whether it is 0 then, and N is 1. C is kept, as the manual says. The manual leaves S, H and P/V
-- open; this project's choice is to keep them.
abbrev pub port_flags : ℕ → Flags → Flags
port_flags count f = record f { zero = is_zero count; subtract = true }

abbrev pub counted_down : BlockStep → Cpu → Cpu
counted_down step cpu =
    let r = cpu.main in
    let count = one_less r.b in
    again_if (not (is_zero count)) step
    (with_main (record (with_hl (stepped step (hl r)) r) { b = count; flags = port_flags count r.flags }) cpu)

abbrev pub block_effect : BlockOperation → BlockStep → Machine → Machine
block_effect BlockOperation.Load step m = on_cpu (loaded step) (copied m)
block_effect BlockOperation.Compare step m = on_cpu (compared step (byte_at (hl m.cpu.main) m.memory)) m
block_effect BlockOperation.Input step m = on_cpu (counted_down step) (store_byte (hl m.cpu.main) port_value m)
block_effect BlockOperation.Output step m = on_cpu (counted_down step) m
