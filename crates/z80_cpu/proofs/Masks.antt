-- Masks and tests of bits, as numbers.
use Rattle.std.proofs.Common.{◌≡◌, ℕ, zero, suc, ◌+◌, ◌*◌, ◌/◌, ◌%◌, ◌^◌, ◌<◌, ◌≤◌, Bool, true, false, not, ap, ◌∙◌, arith, nat_eq, bit_and, bit_or, bit_xor, min}
use Rattle.std.specs.Int.{bit_at, from_bool}
use Rattle.std.proofs.lemmas.Nat.{pow_pos, or_shifted, and_mask}
use Rattle.std.proofs.lemmas.Nat.Bits.{and_pow, bit_at_xor, bit_at_and, and_high_mask}
use Rattle.std.proofs.lemmas.Bool.Decides.{nat_tests}

pub from_bool_le : (b : Bool) → from_bool b ≤ 1
from_bool_le true = omega arith
from_bool_le false = omega arith

two_values : (x m : ℕ) → x < 2 → 0 < m → not (nat_eq (x * m) 0) ≡ nat_eq x 1
two_values zero m h p = grind (arith, nat_tests)
two_values (suc zero) m h p = grind (arith, nat_tests)
two_values (suc (suc x)) m h p = absurd (omega arith)

-- `n & (1 << k) != 0`
pub bit_is_set : (n k : ℕ) → not (nat_eq (bit_and n (2 ^ k)) 0) ≡ nat_eq (bit_at n k) 1
bit_is_set n k = rw (and_pow n k) (two_values (bit_at n k) (2 ^ k) (omega arith) (pow_pos k))

-- `(a ^ b) & (1 << k) != 0`
pub xor_is_set : (a b k : ℕ) → not (nat_eq (bit_and (bit_xor a b) (2 ^ k)) 0) ≡ nat_eq ((bit_at a k + bit_at b k) % 2) 1
xor_is_set a b k = bit_is_set (bit_xor a b) k ∙ ap (λ n. nat_eq n 1) (bit_at_xor a b k)

-- `(a ^ b ^ v) & (1 << k) != 0`
pub xor_xor_is_set : (a b v k : ℕ) → not (nat_eq (bit_and (bit_xor (bit_xor a b) v) (2 ^ k)) 0) ≡ nat_eq (((bit_at a k + bit_at b k) % 2 + bit_at v k) % 2) 1
xor_xor_is_set a b v k = xor_is_set (bit_xor a b) v k ∙ ap (λ n. nat_eq ((n + bit_at v k) % 2) 1) (bit_at_xor a b k)

-- `(a ^ b) & (u ^ v) & (1 << k) != 0`
pub xor_and_xor_is_set : (a b u v k : ℕ) → not (nat_eq (bit_and (bit_and (bit_xor a b) (bit_xor u v)) (2 ^ k)) 0) ≡ nat_eq (min ((bit_at a k + bit_at b k) % 2) ((bit_at u k + bit_at v k) % 2)) 1
xor_and_xor_is_set a b u v k =
    bit_is_set (bit_and (bit_xor a b) (bit_xor u v)) k
    ∙ ap (λ n. nat_eq n 1) (bit_at_and (bit_xor a b) (bit_xor u v) k)
    ∙ ap (λ n. nat_eq (min n (bit_at (bit_xor u v) k)) 1) (bit_at_xor a b k)
    ∙ ap (λ n. nat_eq (min ((bit_at a k + bit_at b k) % 2) n) 1) (bit_at_xor u v k)

-- `x | low`, if the low k bits of x are 0
pub or_low : (x high k low : ℕ) → x ≡ high * 2 ^ k → low < 2 ^ k → bit_or x low ≡ x + low
or_low x high k low e h = rw e (or_shifted high k low h)

-- `n & 0x0F` and `n & 0xF0`
pub low_digit : (n : ℕ) → bit_and n 15 ≡ n % 16
low_digit n = and_mask n 4

pub high_digit : (n : ℕ) → n < 256 → bit_and n 240 ≡ n / 16 * 16
high_digit n h = and_high_mask 8 4 (omega arith) n h

-- `high << 4 | low`
pub digits_joined : (high low : ℕ) → low < 16 → bit_or (high * 16 % 256) low ≡ high % 16 * 16 + low
digits_joined high low h = or_low (high * 16 % 256) (high % 16) 4 low (omega arith) h ∙ omega arith

-- `a & 0xF0 | low`
pub low_digit_replaced : (a low : ℕ) → a < 256 → low < 16 → bit_or (bit_and a 240) low ≡ a / 16 * 16 + low
low_digit_replaced a low small h = rw (high_digit a small) (or_low (a / 16 * 16) (a / 16) 4 low (omega arith) h)
