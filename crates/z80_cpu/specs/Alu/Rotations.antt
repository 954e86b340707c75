-- The rotate and shift group, and the bit set, reset and test group.
--
-- Z80 CPU User Manual (Zilog UM0080), "Rotate and Shift Group" and "Bit Set, Reset, and Test Group". To shift left is to double, and to
-- shift right to halve. A flag that a definition does not name is kept.
use Rattle.std.specs.Prelude.{ℕ, ◌+◌, ◌-◌, ◌*◌, ◌/◌, ◌%◌, ◌^◌, Bool, true, false, ◌==◌}
use Rattle.std.specs.Int.{bit_at, from_bool}
use Rattle.z80_instr.specs.Table.{octal_code}
use Rattle.z80_cpu.specs.Types.{Flags, Rotation, Octal}
use Rattle.z80_cpu.specs.Alu.Bytes.{parity_flags}

-- bits 7 and 0
abbrev pub highest_bit : ℕ → Bool
highest_bit value = bit_at value 7 == 1

abbrev pub lowest_bit : ℕ → Bool
lowest_bit value = bit_at value 0 == 1

-- a byte shifted by one, with the bit that moves in
abbrev pub shifted_left : ℕ → Bool → ℕ
shifted_left value bit_in = value * 2 % 256 + from_bool bit_in

abbrev pub shifted_right : ℕ → Bool → ℕ
shifted_right value bit_in = 128 * from_bool bit_in + value / 2

-- the byte after a rotation or a shift, if C was the given flag before it
abbrev pub rotated : Rotation → ℕ → Bool → ℕ
rotated Rotation.Rlc value carry = shifted_left value (highest_bit value)
rotated Rotation.Rrc value carry = shifted_right value (lowest_bit value)
rotated Rotation.Rl value carry = shifted_left value carry
rotated Rotation.Rr value carry = shifted_right value carry
rotated Rotation.Sla value carry = shifted_left value false
rotated Rotation.Sra value carry = shifted_right value (highest_bit value)
rotated Rotation.Srl value carry = shifted_right value false

-- C after it: the bit that moves out
abbrev pub bit_out : Rotation → ℕ → Bool
bit_out Rotation.Rlc value = highest_bit value
bit_out Rotation.Rrc value = lowest_bit value
bit_out Rotation.Rl value = highest_bit value
bit_out Rotation.Rr value = lowest_bit value
bit_out Rotation.Sla value = highest_bit value
bit_out Rotation.Sra value = lowest_bit value
bit_out Rotation.Srl value = lowest_bit value

-- RLCA, RRCA, RLA, RRA: H and N are 0, and C is the bit that moves out
abbrev pub rotate_accumulator_flags : Rotation → ℕ → Flags → Flags
rotate_accumulator_flags rotation value f = record f { half_carry = false; subtract = false; carry = bit_out rotation value }

-- the other rotations and shifts: S, Z and P of the result too
abbrev pub rotate_flags : Rotation → ℕ → Flags → Flags
rotate_flags rotation value f =
    record (parity_flags (rotated rotation value f.carry) false f) { carry = bit_out rotation value }

-- RLD: the byte's low digit becomes its high digit, its high digit becomes A's low digit, and A's low digit becomes the byte's low digit
abbrev pub rld_byte : ℕ → ℕ → ℕ
rld_byte a value = value % 16 * 16 + a % 16

abbrev pub rld_accumulator : ℕ → ℕ → ℕ
rld_accumulator a value = a / 16 * 16 + value / 16

-- RRD: the byte's high digit becomes its low digit, its low digit becomes A's low digit, and A's low digit becomes the byte's high digit
abbrev pub rrd_byte : ℕ → ℕ → ℕ
rrd_byte a value = a % 16 * 16 + value / 16

abbrev pub rrd_accumulator : ℕ → ℕ → ℕ
rrd_accumulator a value = a / 16 * 16 + value % 16

-- the value of a bit of a byte, by the bit's number
abbrev pub bit_of : Octal → ℕ → ℕ
bit_of bit value = bit_at value (octal_code bit)

-- BIT: Z is 1 if the bit is 0; H is 1 and N 0. The manual leaves S and P/V open; this project's choice is to keep them.
abbrev pub bit_flags : Octal → ℕ → Flags → Flags
bit_flags bit value f = record f { zero = bit_of bit value == 0; half_carry = true; subtract = false }

-- SET and RES: SET adds the value of the bit's position if the bit is 0, and RES subtracts it if the bit is 1
abbrev pub set_bit : Octal → ℕ → ℕ
set_bit bit value = value + (1 - bit_of bit value) * 2 ^ octal_code bit

abbrev pub reset_bit : Octal → ℕ → ℕ
reset_bit bit value = value - bit_of bit value * 2 ^ octal_code bit
