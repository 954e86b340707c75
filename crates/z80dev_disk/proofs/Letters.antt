-- The eleven bytes of the name that a word gives.
use Rattle.std.proofs.Common.{◌≡◌, ◌≤◌, ◌+◌, ◌-◌, ◌%◌, ◌&&◌, not, ℕ, zero, suc, true, List, [], ◌∷◌, ◌++◌, length, take, drop, replicate, refl, sym, ap, ap₂, ◌∙◌, arith}
use Rattle.std.specs.Char.{is_ascii_graphic, is_ascii_lowercase}
use Rattle.std.specs.List.{list_all}
use Rattle.std.proofs.lemmas.Bool.{and_parts, leb-true}
use Rattle.std.proofs.Math.Seq.{drop-append_seam, take-append_seam}
use Rattle.std.proofs.lemmas.List.{append_assoc, drop-replicate, length-append, length-replicate, map-append, replicate-append-replicate}
use borrow.Rule.Slice.PartMut.{put_mid}
use Rattle.cpm_image.specs.Directory.Letters.{letters}
use Rattle.z80dev_disk.specs.Words.{padded, is_name_byte, is_name_part}

seven : (b : ℕ) → is_name_byte b ≡ true → b % 128 ≡ b
seven b is =
    let two = (and_parts (is_ascii_graphic b && not (is_ascii_lowercase b)) _ is).0 in
    let graphic : is_ascii_graphic b ≡ true = (and_parts (is_ascii_graphic b) (not (is_ascii_lowercase b)) two).0 in
    let most : b ≤ 126 = leb-true b 126 (and_parts _ _ graphic).1 in
    omega (arith, most)

same_letters : (part : List ℕ) → list_all is_name_byte part ≡ true → letters part ≡ part
same_letters [] all = refl
same_letters (b ∷ part) all =
    let (first, rest) = and_parts _ _ all in
    ap₂ (λ x xs. x ∷ xs) (seven b first) (same_letters part rest)

same_spaces : (n : ℕ) → letters (replicate n 0x20) ≡ replicate n 0x20
same_spaces zero = refl
same_spaces (suc n) = ap (λ xs. 0x20 ∷ xs) (same_spaces n)

same_filled : (n most : ℕ) (part : List ℕ) → is_name_part part most ≡ true → letters (padded n part) ≡ padded n part
same_filled n most part is =
    let (short, all) = and_parts _ _ is in
    map-append (λ b. b % 128) part (replicate (n - length part) 0x20) ∙ ap₂ (λ xs ys. xs ++ ys) (same_letters part all) (same_spaces (n - length part))

pub same_name : (name kind : List ℕ) → is_name_part name 8 ≡ true → is_name_part kind 3 ≡ true → letters (padded 8 name ++ padded 3 kind) ≡ padded 8 name ++ padded 3 kind
same_name name kind good also = map-append (λ b. b % 128) (padded 8 name) (padded 3 kind) ∙ ap₂ (λ xs ys. xs ++ ys) (same_filled 8 8 name good) (same_filled 3 3 kind also)

-- the name and the type, each copied to its field of eleven spaces
pub laid : (name kind one two : List ℕ) (k : ℕ) → length name ≤ 8 → one ≡ name → two ≡ kind → k ≡ length kind
    → put_mid 8 k (one ++ drop (length name) (replicate 11 0x20)) two ≡ padded 8 name ++ padded 3 kind
laid name kind one two k short one_is two_is k_is =
    let front = padded 8 name in
    let spaces : List ℕ = replicate 3 0x20 in
    let left : 11 - length name ≡ 8 - length name + 3 = omega (arith, short) in
    let all : one ++ drop (length name) (replicate 11 0x20) ≡ front ++ spaces =
    ap₂ (λ xs ys. xs ++ ys) one_is (drop-replicate (length name) 11 0x20 ∙ ap (λ n. replicate n 0x20) left ∙ sym (replicate-append-replicate (8 - length name) 3 0x20))
    ∙ sym (append_assoc name (replicate (8 - length name) 0x20) spaces) in
    let eight : length front ≡ 8 = length-append name (replicate (8 - length name) 0x20) ∙ omega (arith, short, length-replicate {A = ℕ} (8 - length name) 0x20) in
    let first : take 8 (front ++ spaces) ≡ front = ap (λ n. take n (front ++ spaces)) (sym eight) ∙ take-append_seam front spaces in
    let behind : drop 8 (front ++ spaces) ≡ spaces = ap (λ n. drop n (front ++ spaces)) (sym eight) ∙ drop-append_seam front spaces in
    let last : drop k (drop 8 (front ++ spaces)) ≡ replicate (3 - length kind) 0x20 = ap (drop k) behind ∙ drop-replicate k 3 0x20 ∙ ap (λ n. replicate (3 - n) 0x20) k_is in
    ap (λ xs. put_mid 8 k xs two) all ∙ ap₂ (λ xs ys. xs ++ ys) first (ap₂ (λ xs ys. xs ++ ys) two_is last)
