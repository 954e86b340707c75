-- Carries, borrows and overflows can be seen from the bits of a, b and the result.
use Rattle.std.proofs.Common.{◌≡◌, ℕ, ◌+◌, ◌-◌, ◌/◌, ◌%◌, ◌<◌, ◌≤◌, arith, nat_eq, nat_le, nat_lt, min, pos, ◌+ℤ◌, ◌-ℤ◌}
use Rattle.std.specs.Int.{w8, w16, cast_signed}
use Rattle.std.proofs.lemmas.Int.{ints}
use Rattle.std.proofs.lemmas.Bool.Decides.{nat_tests}
use Rattle.z80_cpu.specs.Alu.Flags.{overflows}

pub half_sum : (a b c v : ℕ) → c ≤ 1 → v ≡ (a + b + c) % 256 → nat_eq (((a / 16 % 2 + b / 16 % 2) % 2 + v / 16 % 2) % 2) 1 ≡ nat_le 16 (a % 16 + b % 16 + c)
half_sum a b c v h e = grind (arith, nat_tests)

pub half_difference : (a b c v : ℕ) → c ≤ 1 → a < 256 → b < 256 → v ≡ (256 + a - (b + c)) % 256 → nat_eq (((a / 16 % 2 + b / 16 % 2) % 2 + v / 16 % 2) % 2) 1 ≡ nat_lt (a % 16) (b % 16 + c)
half_difference a b c v h p q e = grind (arith, nat_tests)

pub half_word_sum : (a b c v : ℕ) → c ≤ 1 → v ≡ (a + b + c) % 65536 → nat_eq (((a / 4096 % 2 + b / 4096 % 2) % 2 + v / 4096 % 2) % 2) 1 ≡ nat_le 4096 (a % 4096 + b % 4096 + c)
half_word_sum a b c v h e = grind (arith, nat_tests)

pub half_word_difference : (a b c v : ℕ) → c ≤ 1 → a < 65536 → b < 65536 → v ≡ (65536 + a - (b + c)) % 65536 → nat_eq (((a / 4096 % 2 + b / 4096 % 2) % 2 + v / 4096 % 2) % 2) 1 ≡ nat_lt (a % 4096) (b % 4096 + c)
half_word_difference a b c v h p q e = grind (arith, nat_tests)

pub sum_overflows : (a b c v : ℕ) → c ≤ 1 → a < 256 → b < 256 → v ≡ (a + b + c) % 256 → nat_eq (min ((a / 128 % 2 + v / 128 % 2) % 2) ((b / 128 % 2 + v / 128 % 2) % 2)) 1 ≡ overflows 128 (cast_signed w8 a +ℤ cast_signed w8 b +ℤ pos c)
sum_overflows a b c v h p q e = grind (arith, nat_tests, ints)

pub difference_overflows : (a b c v : ℕ) → c ≤ 1 → a < 256 → b < 256 → v ≡ (256 + a - (b + c)) % 256 → nat_eq (min ((a / 128 % 2 + b / 128 % 2) % 2) ((a / 128 % 2 + v / 128 % 2) % 2)) 1 ≡ overflows 128 (cast_signed w8 a -ℤ cast_signed w8 b -ℤ pos c)
difference_overflows a b c v h p q e = grind (arith, nat_tests, ints)

pub word_sum_overflows : (a b c v : ℕ) → c ≤ 1 → a < 65536 → b < 65536 → v ≡ (a + b + c) % 65536 → nat_eq (min ((a / 32768 % 2 + v / 32768 % 2) % 2) ((b / 32768 % 2 + v / 32768 % 2) % 2)) 1 ≡ overflows 32768 (cast_signed w16 a +ℤ cast_signed w16 b +ℤ pos c)
word_sum_overflows a b c v h p q e = grind (arith, nat_tests, ints)

pub word_difference_overflows : (a b c v : ℕ) → c ≤ 1 → a < 65536 → b < 65536 → v ≡ (65536 + a - (b + c)) % 65536 → nat_eq (min ((a / 32768 % 2 + b / 32768 % 2) % 2) ((a / 32768 % 2 + v / 32768 % 2) % 2)) 1 ≡ overflows 32768 (cast_signed w16 a -ℤ cast_signed w16 b -ℤ pos c)
word_difference_overflows a b c v h p q e = grind (arith, nat_tests, ints)
