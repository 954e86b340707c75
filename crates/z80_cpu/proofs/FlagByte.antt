-- Eight flags, each shifted to its bit, make the byte that is their sum.
use Rattle.std.proofs.Common.{◌≡◌, ℕ, ◌+◌, ◌*◌, ◌%◌, ◌≤◌, ap, ◌∙◌, arith, bit_or}
use Rattle.z80_cpu.proofs.Masks.{or_low}

pub packed : (s z y h x p n c : ℕ) → s ≤ 1 → z ≤ 1 → y ≤ 1 → h ≤ 1 → x ≤ 1 → p ≤ 1 → n ≤ 1 → c ≤ 1 →
    bit_or (bit_or (bit_or (bit_or (bit_or (bit_or (bit_or (s * 128 % 256) (z * 64 % 256)) (y * 32 % 256)) (h * 16 % 256)) (x * 8 % 256)) (p * 4 % 256)) (n * 2 % 256)) c
    ≡ 128 * s + 64 * z + 32 * y + 16 * h + 8 * x + 4 * p + 2 * n + c
packed s z y h x p n c s_le z_le y_le h_le x_le p_le n_le c_le =
    let two = or_low (s * 128 % 256) s 7 (z * 64 % 256) (omega arith) (omega arith) in
    let three = ap (λ v. bit_or v (y * 32 % 256)) two ∙ or_low _ (2 * s + z) 6 (y * 32 % 256) (omega arith) (omega arith) in
    let four = ap (λ v. bit_or v (h * 16 % 256)) three ∙ or_low _ (4 * s + 2 * z + y) 5 (h * 16 % 256) (omega arith) (omega arith) in
    let five = ap (λ v. bit_or v (x * 8 % 256)) four ∙ or_low _ (8 * s + 4 * z + 2 * y + h) 4 (x * 8 % 256) (omega arith) (omega arith) in
    let six = ap (λ v. bit_or v (p * 4 % 256)) five ∙ or_low _ (16 * s + 8 * z + 4 * y + 2 * h + x) 3 (p * 4 % 256) (omega arith) (omega arith) in
    let seven = ap (λ v. bit_or v (n * 2 % 256)) six ∙ or_low _ (32 * s + 16 * z + 8 * y + 4 * h + 2 * x + p) 2 (n * 2 % 256) (omega arith) (omega arith) in
    let eight = ap (λ v. bit_or v c) seven ∙ or_low _ (64 * s + 32 * z + 16 * y + 8 * h + 4 * x + 2 * p + n) 1 c (omega arith) (omega arith) in
    omega (arith, eight)
