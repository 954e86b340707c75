-- The flag register F, and what each flag says about a result.
--
-- Z80 CPU User Manual (Zilog UM0080), "Z80 Status Indicator Flags". Numbers have no bounds; only `%` wraps them.
use Rattle.std.specs.Prelude.{ℕ, ◌+◌, ◌*◌, ◌%◌, Bool, ◌||◌, ℤ, pos, neg_ℤ, int_lt, int_le, nat_le, ◌==◌, count_ones}
use Rattle.std.specs.Int.{bit_at, from_bool}
use Rattle.z80_cpu.specs.Types.{Flags}

-- F, from bit 7 down: S, Z, bit 5, H, bit 3, P/V, N, C
abbrev pub byte_of : Flags → ℕ
byte_of f =
    128 * from_bool f.sign + 64 * from_bool f.zero + 32 * from_bool f.bit_5 + 16 * from_bool f.half_carry
    + 8 * from_bool f.bit_3 + 4 * from_bool f.parity_overflow + 2 * from_bool f.subtract + from_bool f.carry

-- the flags in a byte F
abbrev pub flags_of : ℕ → Flags
flags_of byte = record {
  sign = bit_at byte 7 == 1;
  zero = bit_at byte 6 == 1;
  bit_5 = bit_at byte 5 == 1;
  half_carry = bit_at byte 4 == 1;
  bit_3 = bit_at byte 3 == 1;
  parity_overflow = bit_at byte 2 == 1;
  subtract = bit_at byte 1 == 1;
  carry = bit_at byte 0 == 1;
}

-- S of a byte and of a word: it is negative in two's complement
abbrev pub is_negative_byte : ℕ → Bool
is_negative_byte value = nat_le 128 value

abbrev pub is_negative_word : ℕ → Bool
is_negative_word value = nat_le 32768 value

-- Z
abbrev pub is_zero : ℕ → Bool
is_zero value = value == 0

-- P: the number of ones is even
abbrev pub has_even_parity : ℕ → Bool
has_even_parity value = count_ones value % 2 == 0

-- V: a number is outside -half to half - 1, the range of a signed type
abbrev pub overflows : ℕ → ℤ → Bool
overflows half z = int_lt z (neg_ℤ (pos half)) || int_le (pos half) z
