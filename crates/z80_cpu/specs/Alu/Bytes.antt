-- The 8-bit arithmetic group, and DAA, CPL, NEG, CCF and SCF of the general-purpose group.
--
-- Z80 CPU User Manual (Zilog UM0080), "8-Bit Arithmetic Group" and "General-Purpose Arithmetic and CPU Control Groups". A carry or borrow
-- into an operation is a flag. A flag that a definition does not name is kept.
use Rattle.std.specs.Prelude.{ℕ, ◌+◌, ◌-◌, ◌%◌, Bool, true, false, not, ◌&&◌, ◌||◌, if◌then◌else◌, pos, ◌+ℤ◌, ◌-ℤ◌, nat_le, nat_lt, bit_and, bit_or, bit_xor}
use Rattle.std.specs.Int.{w8, cast_signed, from_bool}
use Rattle.z80_cpu.specs.Types.{Flags, AluOperation}
use Rattle.z80_cpu.specs.Alu.Flags.{is_negative_byte, is_zero, has_even_parity, overflows}

-- ADD and ADC: a + b, plus 1 if the carry is set
abbrev pub sum_of : ℕ → ℕ → Bool → ℕ
sum_of a b carry = (a + b + from_bool carry) % 256

-- H is a carry out of bit 3: the low digits reach 16. C is a carry out of bit 7: the sum reaches 256.
abbrev pub add_flags : ℕ → ℕ → Bool → Flags → Flags
add_flags a b carry f = record f {
  sign = is_negative_byte (sum_of a b carry);
  zero = is_zero (sum_of a b carry);
  half_carry = nat_le 16 (a % 16 + b % 16 + from_bool carry);
  parity_overflow = overflows 128 (cast_signed w8 a +ℤ cast_signed w8 b +ℤ pos (from_bool carry));
  subtract = false;
  carry = nat_le 256 (a + b + from_bool carry);
}

-- SUB, SBC, CP and NEG: a - b, minus 1 if the borrow is set
abbrev pub difference_of : ℕ → ℕ → Bool → ℕ
difference_of a b borrow = (256 + a - (b + from_bool borrow)) % 256

-- H is a borrow of the low digit, C a borrow of the whole byte
abbrev pub subtract_flags : ℕ → ℕ → Bool → Flags → Flags
subtract_flags a b borrow f = record f {
  sign = is_negative_byte (difference_of a b borrow);
  zero = is_zero (difference_of a b borrow);
  half_carry = nat_lt (a % 16) (b % 16 + from_bool borrow);
  parity_overflow = overflows 128 (cast_signed w8 a -ℤ cast_signed w8 b -ℤ pos (from_bool borrow));
  subtract = true;
  carry = nat_lt a (b + from_bool borrow);
}

-- S, Z and P of a result, N 0, with the given H
abbrev pub parity_flags : ℕ → Bool → Flags → Flags
parity_flags value half_carry f = record f {
  sign = is_negative_byte value;
  zero = is_zero value;
  half_carry = half_carry;
  parity_overflow = has_even_parity value;
  subtract = false;
}

-- AND, XOR, OR: C is 0, and H is 1 only for AND
abbrev pub logic_flags : ℕ → Bool → Flags → Flags
logic_flags value half_carry f = record (parity_flags value half_carry f) { carry = false }

-- what A is after an operation with b
abbrev pub accumulator_after : AluOperation → ℕ → ℕ → Flags → ℕ
accumulator_after AluOperation.Add a b f = sum_of a b false
accumulator_after AluOperation.Adc a b f = sum_of a b f.carry
accumulator_after AluOperation.Sub a b f = difference_of a b false
accumulator_after AluOperation.Sbc a b f = difference_of a b f.carry
accumulator_after AluOperation.And a b f = bit_and a b
accumulator_after AluOperation.Xor a b f = bit_xor a b
accumulator_after AluOperation.Or a b f = bit_or a b
accumulator_after AluOperation.Cp a b f = a

abbrev pub operation_flags : AluOperation → ℕ → ℕ → Flags → Flags
operation_flags AluOperation.Add a b f = add_flags a b false f
operation_flags AluOperation.Adc a b f = add_flags a b f.carry f
operation_flags AluOperation.Sub a b f = subtract_flags a b false f
operation_flags AluOperation.Sbc a b f = subtract_flags a b f.carry f
operation_flags AluOperation.And a b f = logic_flags (bit_and a b) true f
operation_flags AluOperation.Xor a b f = logic_flags (bit_xor a b) false f
operation_flags AluOperation.Or a b f = logic_flags (bit_or a b) false f
operation_flags AluOperation.Cp a b f = subtract_flags a b false f

-- INC and DEC of a byte: as ADD and SUB of 1, but C is kept
abbrev pub increment_flags : ℕ → Flags → Flags
increment_flags value f = record (add_flags value 1 false f) { carry = f.carry }

abbrev pub decrement_flags : ℕ → Flags → Flags
decrement_flags value f = record (subtract_flags value 1 false f) { carry = f.carry }

-- what DAA adds or subtracts: 06H if H is set or the low digit is above 9, and 60H if C is set or A is above 99H
abbrev pub correction : ℕ → Flags → ℕ
correction a f =
    (if f.half_carry || nat_lt 9 (a % 16) then 0x06 else 0) + (if f.carry || nat_lt 0x99 a then 0x60 else 0)

-- DAA: subtracts this if N is set, and adds it otherwise
abbrev pub adjusted : ℕ → Flags → ℕ
adjusted a f = if f.subtract then difference_of a (correction a f) false else sum_of a (correction a f) false

-- DAA sets S, Z and P for the result and keeps N. C is 1 if it was 1 or A was above 99H, so that the high digit overflowed. The manual
-- leaves H open. This project's choice: H says whether the correction of the low digit caused a carry, or a borrow if N is set.
abbrev pub adjust_flags : ℕ → Flags → Flags
adjust_flags a f = record f {
  sign = is_negative_byte (adjusted a f);
  zero = is_zero (adjusted a f);
  half_carry = if f.subtract then f.half_carry && nat_lt (a % 16) 6 else nat_lt 9 (a % 16);
  parity_overflow = has_even_parity (adjusted a f);
  carry = f.carry || nat_lt 0x99 a;
}

-- CPL: every bit of A is inverted, and H and N are 1
abbrev pub complemented : ℕ → ℕ
complemented a = 255 - a

abbrev pub complement_flags : Flags → Flags
complement_flags f = record f { half_carry = true; subtract = true }

-- SCF and CCF
abbrev pub set_carry_flags : Flags → Flags
set_carry_flags f = record f { half_carry = false; subtract = false; carry = true }

abbrev pub complement_carry_flags : Flags → Flags
complement_carry_flags f = record f { half_carry = f.carry; subtract = false; carry = not f.carry }
