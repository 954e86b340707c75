-- Rules that the checker tests by computing them for each byte.
use Rattle.std.proofs.Common.{◌≡◌, ℕ, ◌-◌, ◌*◌, ◌+◌, ◌%◌, ◌^◌, ◌<◌, Bool, true, false, ◌&&◌, ◌||◌, refl, nat_eq, nat_lt, cond, bit_and, bit_or, map}
use Rattle.std.specs.Int.{bit_at}
use Rattle.std.specs.List.{range_with_len}
use Rattle.z80_instr.specs.Table.{octal_code}
use Rattle.z80_instr.proofs.Finite.{agree_below, octals}
use Rattle.z80_cpu.specs.Types.{Octal, Flags}
use Rattle.z80_cpu.specs.Alu.Bytes.{sum_of, difference_of, adjusted, adjust_flags}
use Rattle.z80_cpu.specs.Alu.Rotations.{bit_of, set_bit, reset_bit}

-- `1 << k`
abbrev pub mask : Octal → ℕ
mask bit = 1 * 2 ^ octal_code bit % 256

-- A rule about a bit's number and a byte, computed for all of them.
at_each : {X : Type 0} (f g : Octal → ℕ → X) → map (λ v. octals.values X (λ bit. f bit v)) (range_with_len 0 256) ≡ map (λ v. octals.values X (λ bit. g bit v)) (range_with_len 0 256) →
    (bit : Octal) (v : ℕ) → v < 256 → f bit v ≡ g bit v
at_each {X} f g e bit v h =
    octals.agree X (λ bit. f bit v) (λ bit. g bit v)
    (agree_below (λ v. octals.values X (λ bit. f bit v)) (λ v. octals.values X (λ bit. g bit v)) 256 e v h) bit

-- `value & 1 << k == 0`
pub bit_is_clear : (bit : Octal) (v : ℕ) → v < 256 → nat_eq (bit_and v (mask bit)) 0 ≡ nat_eq (bit_of bit v) 0
bit_is_clear = at_each (λ bit v. nat_eq (bit_and v (mask bit)) 0) (λ bit v. nat_eq (bit_of bit v) 0) refl

-- `value | 1 << k`
pub or_mask : (bit : Octal) (v : ℕ) → v < 256 → bit_or v (mask bit) ≡ set_bit bit v
or_mask = at_each (λ bit v. bit_or v (mask bit)) set_bit refl

-- `value & !(1 << k)`
pub and_not_mask : (bit : Octal) (v : ℕ) → v < 256 → bit_and v (255 - mask bit) ≡ reset_bit bit v
and_not_mask = at_each (λ bit v. bit_and v (255 - mask bit)) reset_bit refl

-- DAA: there was a carry or borrow of the low digit exactly if bit 4 of A changed.
abbrev adjusted_by : (half carry subtract : Bool) → ℕ → ℕ
adjusted_by half carry subtract a =
    let correction = cond (half || nat_lt 9 (a % 16)) 0x06 0 + cond (carry || nat_lt 0x99 a) 0x60 0 in
    cond subtract (difference_of a correction false) (sum_of a correction false)

abbrev turned : (half carry subtract : Bool) → ℕ → Bool
turned half carry subtract a = nat_eq ((bit_at a 4 + bit_at (adjusted_by half carry subtract a) 4) % 2) 1

abbrev digit_carries : (half subtract : Bool) → ℕ → Bool
digit_carries half subtract a = cond subtract (half && nat_lt (a % 16) 6) (nat_lt 9 (a % 16))

bit_4_turns : (half carry subtract : Bool) (a : ℕ) → a < 256 → turned half carry subtract a ≡ digit_carries half subtract a
bit_4_turns true true true = agree_below (turned true true true) (digit_carries true true) 256 refl
bit_4_turns true true false = agree_below (turned true true false) (digit_carries true false) 256 refl
bit_4_turns true false true = agree_below (turned true false true) (digit_carries true true) 256 refl
bit_4_turns true false false = agree_below (turned true false false) (digit_carries true false) 256 refl
bit_4_turns false true true = agree_below (turned false true true) (digit_carries false true) 256 refl
bit_4_turns false true false = agree_below (turned false true false) (digit_carries false false) 256 refl
bit_4_turns false false true = agree_below (turned false false true) (digit_carries false true) 256 refl
bit_4_turns false false false = agree_below (turned false false false) (digit_carries false false) 256 refl

pub half_of_adjust : (f : Flags) (a : ℕ) → a < 256 → nat_eq ((bit_at a 4 + bit_at (adjusted a f) 4) % 2) 1 ≡ (adjust_flags a f).half_carry
half_of_adjust f a h = bit_4_turns f.half_carry f.carry f.subtract a h
