-- The 16-bit arithmetic group.
--
-- Z80 CPU User Manual (Zilog UM0080), "16-Bit Arithmetic Group". A flag that a definition does not name is kept.
use Rattle.std.specs.Prelude.{ℕ, ◌+◌, ◌-◌, ◌%◌, Bool, true, false, pos, ◌+ℤ◌, ◌-ℤ◌, nat_le, nat_lt}
use Rattle.std.specs.Int.{w16, cast_signed, from_bool}
use Rattle.z80_cpu.specs.Types.{Flags}
use Rattle.z80_cpu.specs.Alu.Flags.{is_negative_word, is_zero, overflows}

-- ADD and ADC
abbrev pub word_sum_of : ℕ → ℕ → Bool → ℕ
word_sum_of a b carry = (a + b + from_bool carry) % 65536

-- ADD HL, ADD IX, ADD IY: H is a carry out of bit 11, and C a carry out of bit 15
abbrev pub add_word_flags : ℕ → ℕ → Bool → Flags → Flags
add_word_flags a b carry f = record f {
  half_carry = nat_le 4096 (a % 4096 + b % 4096 + from_bool carry);
  subtract = false;
  carry = nat_le 65536 (a + b + from_bool carry);
}

-- ADC HL: S, Z and V too
abbrev pub adc_word_flags : ℕ → ℕ → Bool → Flags → Flags
adc_word_flags a b carry f = record (add_word_flags a b carry f) {
  sign = is_negative_word (word_sum_of a b carry);
  zero = is_zero (word_sum_of a b carry);
  parity_overflow = overflows 32768 (cast_signed w16 a +ℤ cast_signed w16 b +ℤ pos (from_bool carry));
}

-- SBC HL
abbrev pub word_difference_of : ℕ → ℕ → Bool → ℕ
word_difference_of a b borrow = (65536 + a - (b + from_bool borrow)) % 65536

abbrev pub sbc_word_flags : ℕ → ℕ → Bool → Flags → Flags
sbc_word_flags a b borrow f = record f {
  sign = is_negative_word (word_difference_of a b borrow);
  zero = is_zero (word_difference_of a b borrow);
  half_carry = nat_lt (a % 4096) (b % 4096 + from_bool borrow);
  parity_overflow = overflows 32768 (cast_signed w16 a -ℤ cast_signed w16 b -ℤ pos (from_bool borrow));
  subtract = true;
  carry = nat_lt a (b + from_bool borrow);
}
