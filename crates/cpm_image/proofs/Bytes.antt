-- Bytes divided into sectors, and padded.
use Rattle.std.proofs.Common.{◌≡◌, ℕ, zero, suc, ◌+◌, ◌-◌, ◌*◌, ◌≤◌, List, ◌++◌, All, length, take, drop, replicate, Ok, refl, ap, sym, ◌∙◌, arith, length-append, length-take, length-drop}
use Rattle.std.specs.List.{concat}
use Rattle.std.specs.Simd.{first_chunks}
use Rattle.std.proofs.lemmas.List.{nil_from_length, take-append-drop, replicate-append-replicate, length-replicate}
use Rattle.std.proofs.lemmas.List.Elements.{All-nil, All-cons, All-append, All-replicate}
use Rattle.std.proofs.lemmas.List.Folds.{concat-append}
use Rattle.cpm_image.specs.Image.{IsImageOfKind, byte_count}
use Rattle.cpm_image.specs.Kind.{sector_count}
use Rattle.cpm_image.specs.declared.kind.DiskKind.{DiskKind}

abbrev IsWhole : List ℕ → Type 0
IsWhole sector = length sector ≡ 128

concat-chunks : (n : ℕ) (bytes : List ℕ) → length bytes ≡ 128 * n → concat (first_chunks 128 n bytes) ≡ bytes
concat-chunks zero bytes e = sym (nil_from_length bytes (omega arith))
concat-chunks (suc n) bytes e =
    let rest = concat-chunks n (drop 128 bytes) (omega (arith, length-drop 128 bytes)) in
    ap (λ xs. take 128 bytes ++ xs) rest ∙ take-append-drop 128 bytes

whole-chunks : (n : ℕ) (bytes : List ℕ) → length bytes ≡ 128 * n → All IsWhole (first_chunks 128 n bytes)
whole-chunks zero bytes e = All-nil IsWhole
whole-chunks (suc n) bytes e =
    All-cons IsWhole _ _ (omega (arith, length-take 128 bytes)) (whole-chunks n (drop 128 bytes) (omega (arith, length-drop 128 bytes)))

length-chunks : (n : ℕ) (bytes : List ℕ) → length (first_chunks 128 n bytes) ≡ n
length-chunks zero bytes = refl
length-chunks (suc n) bytes = ap (λ k. suc k) (length-chunks n (drop 128 bytes))

-- a sector that was never written
abbrev pub blank : List ℕ
blank = replicate 128 0xE5

concat-blanks : (n : ℕ) → concat (replicate n blank) ≡ replicate (128 * n) 0xE5
concat-blanks zero = refl
concat-blanks (suc n) =
    let e : 128 + 128 * n ≡ 128 * suc n = omega arith in
    ap (λ xs. blank ++ xs) (concat-blanks n) ∙ replicate-append-replicate 128 (128 * n) 0xE5 ∙ ap (λ k. replicate k 0xE5) e

filled : (kind : DiskKind) (n : ℕ) (bytes : List ℕ) (image : List (List ℕ)) → length bytes ≡ 128 * n → n ≤ sector_count kind → image ≡ first_chunks 128 n bytes ++ replicate (sector_count kind - n) blank → IsImageOfKind kind bytes (Ok image)
filled kind n bytes image e h is =
    let count : length image ≡ sector_count kind = omega (arith, ap length is, length-append (first_chunks 128 n bytes) (replicate (sector_count kind - n) blank), length-chunks n bytes, length-replicate (sector_count kind - n) blank) in
    let room : 128 * (sector_count kind - n) ≡ byte_count kind - length bytes = omega arith in
    let joined : concat (first_chunks 128 n bytes ++ replicate (sector_count kind - n) blank) ≡ bytes ++ replicate (byte_count kind - length bytes) 0xE5 =
    concat-append (first_chunks 128 n bytes) (replicate (sector_count kind - n) blank)
    ∙ ap (λ xs. xs ++ concat (replicate (sector_count kind - n) blank)) (concat-chunks n bytes e)
    ∙ ap (λ xs. bytes ++ xs) (concat-blanks (sector_count kind - n) ∙ ap (λ k. replicate k 0xE5) room) in
    let whole = All-append IsWhole (first_chunks 128 n bytes) (replicate (sector_count kind - n) blank) (whole-chunks n bytes e) (All-replicate IsWhole (sector_count kind - n) blank (length-replicate {A = ℕ} 128 0xE5)) in
    ((omega arith, omega arith), count, rw is whole, ap concat is ∙ joined)

-- the given sectors, followed by blank ones
pub filled_up : (kind : DiskKind) (count n : ℕ) (bytes : List ℕ) (given image : List (List ℕ)) → count ≡ sector_count kind → length bytes ≡ 128 * n → n ≤ count → given ≡ first_chunks 128 n bytes → image ≡ given ++ replicate (count - length given) blank → IsImageOfKind kind bytes (Ok image)
filled_up kind count n bytes given image sectors e h chunks is =
    let size : length given ≡ n = ap length chunks ∙ length-chunks n bytes in
    filled kind n bytes image e (omega arith) (is ∙ ap (λ xs. xs ++ replicate (count - length given) blank) chunks ∙ ap (λ k. first_chunks 128 n bytes ++ replicate (count - k) blank) size ∙ ap (λ k. first_chunks 128 n bytes ++ replicate (k - n) blank) sectors)
