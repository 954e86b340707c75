-- Parts of 32 bytes, after one of them is written.
use Rattle.std.proofs.Common.{◌≡◌, ◌<◌, ◌≤◌, ◌+◌, ◌-◌, ◌*◌, ℕ, zero, suc, List, [], drop-drop, get_or, length, refl, take, drop, ap, sym, ◌∙◌, arith}
use Rattle.std.specs.Simd.{first_chunks}
use Rattle.std.proofs.lemmas.Slice.{between_is, between-put_mid, take-put_mid_below}
use borrow.Rule.Slice.PartMut.{put_mid}

piece_is : (bytes : List ℕ) (a : ℕ) → take 32 (drop a bytes) ≡ drop a (take (a + 32) bytes)
piece_is bytes a = let size : 32 ≡ a + 32 - a = omega arith in ap (λ n. take n (drop a bytes)) size ∙ between_is bytes a (a + 32)

pub piece_kept : (bytes new : List ℕ) (i j k : ℕ) → j < i → 32 * i ≤ length bytes → take 32 (drop (32 * j) (put_mid (32 * i) k bytes new)) ≡ take 32 (drop (32 * j) bytes)
piece_kept bytes new i j k below within =
    piece_is (put_mid (32 * i) k bytes new) (32 * j)
    ∙ ap (drop (32 * j)) (take-put_mid_below (32 * i) k bytes new (32 * j + 32) (omega arith) within)
    ∙ sym (piece_is bytes (32 * j))

pub piece_put : (bytes new : List ℕ) (a k : ℕ) → a ≤ length bytes → length new ≡ 32 → take 32 (drop a (put_mid a k bytes new)) ≡ new
piece_put bytes new a k within long =
    let size : 32 ≡ a + 32 - a = omega arith in
    ap (λ n. take n (drop a (put_mid a k bytes new))) size ∙ between-put_mid a k bytes new (a + 32) within (omega arith)

-- one of the parts into which the bytes are divided
pub piece_at : (n i : ℕ) (bytes : List ℕ) → i < n → get_or (first_chunks 32 n bytes) i [] ≡ take 32 (drop (32 * i) bytes)
piece_at zero i bytes below = absurd (omega arith)
piece_at (suc n) zero bytes below = refl
piece_at (suc n) (suc i) bytes below =
    piece_at n i (drop 32 bytes) (omega arith)
    ∙ ap (take 32) (drop-drop (32 * i) 32 bytes ∙ ap (λ k. drop k bytes) (let e : 32 + 32 * i ≡ 32 * suc i = omega arith in e))
