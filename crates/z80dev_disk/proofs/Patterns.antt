-- The eleven bytes of the pattern that a word gives.
use Rattle.std.proofs.Common.{◌≡◌, ◌≤◌, ◌+◌, ◌-◌, ◌==◌, ℕ, true, not, ◌&&◌, List, [], ◌∷◌, ◌++◌, Some, None, drop, if◌then◌else◌, length, replicate, take, sym, ap, ap₂, ◌∙◌, arith, leb-true}
use Rattle.std.proofs.lemmas.Bool.{and_parts}
use Rattle.std.proofs.lemmas.List.{append-nil, drop_all, length-append, length-drop, length-replicate, length-take, take_at}
use borrow.Rule.Slice.PartMut.{post_of}
use Rattle.z80dev_disk.specs.Words.{before_point, before_star, behind_point, filled_pattern, has_star, is_pattern, is_pattern_part, pattern_of}

-- a padded part has n bytes
pub filled_length : (n : ℕ) (part : List ℕ) → length (before_star part) ≤ n → length (filled_pattern n part) ≡ n
filled_length n part short =
    let rest : List ℕ = replicate (n - length (before_star part)) (if has_star part then 0x3F else 0x20) in
    length-append (before_star part) rest ∙ omega (arith, short, length-replicate {A = ℕ} (n - length (before_star part)) (if has_star part then 0x3F else 0x20))

-- the parts for the name and the type, each copied to its field
laid : (one two : List ℕ) → length one ≡ 8 → take 8 (one ++ 32 ∷ 32 ∷ 32 ∷ []) ++ (two ++ post_of 8 3 (one ++ 32 ∷ 32 ∷ 32 ∷ [])) ≡ one ++ two
laid one two eight =
    let all : List ℕ = one ++ 32 ∷ 32 ∷ 32 ∷ [] in
    let eleven : length all ≡ 11 = length-append one (32 ∷ 32 ∷ 32 ∷ []) ∙ ap (λ n. n + 3) eight in
    let past : post_of 8 3 all ≡ [] = drop_all 3 (drop 8 all) (omega (arith, eleven, length-drop 8 all)) in
    ap₂ (λ xs ys. xs ++ ys) (take_at one (32 ∷ 32 ∷ 32 ∷ []) 8 eight) (ap (λ ys. two ++ ys) past ∙ append-nil two)

short_parts : (word : List ℕ) → is_pattern word ≡ true → (length (before_star (before_point word)) ≤ 8) × (length (before_star (behind_point word)) ≤ 3)
short_parts word is =
    let (front, back) = and_parts (not (length (before_point word) == 0) && is_pattern_part (before_point word) 8) (is_pattern_part (behind_point word) 3) is in
    let (some, good) = and_parts (not (length (before_point word) == 0)) (is_pattern_part (before_point word) 8) front in
    (leb-true (length (before_star (before_point word))) 8 (and_parts _ _ good).0, leb-true (length (before_star (behind_point word))) 3 (and_parts _ _ back).0)

-- the two padded parts are the pattern that the word gives
pub spelled : (word one two : List ℕ) → is_pattern word ≡ true → one ≡ filled_pattern 8 (before_point word) → two ≡ filled_pattern (length (take 3 (drop 8 (one ++ 32 ∷ 32 ∷ 32 ∷ [])))) (behind_point word)
    → ◌≡◌ (Some (take 8 (one ++ 32 ∷ 32 ∷ 32 ∷ []) ++ (two ++ post_of 8 3 (one ++ 32 ∷ 32 ∷ 32 ∷ [])))) (pattern_of word)
spelled word one two is one_is two_is =
    let (eight, three) = short_parts word is in
    let all : List ℕ = one ++ 32 ∷ 32 ∷ 32 ∷ [] in
    let long : length one ≡ 8 = ap length one_is ∙ filled_length 8 (before_point word) eight in
    let eleven : length all ≡ 11 = length-append one (32 ∷ 32 ∷ 32 ∷ []) ∙ ap (λ n. n + 3) long in
    let place : length (take 3 (drop 8 all)) ≡ 3 = omega (arith, eleven, length-take 3 (drop 8 all), length-drop 8 all) in
    let kind_is = two_is ∙ ap (λ n. filled_pattern n (behind_point word)) place in
    ap Some (laid one two long ∙ ap₂ (λ xs ys. xs ++ ys) one_is kind_is)
    ∙ sym (ap (λ b. if b then Some (filled_pattern 8 (before_point word) ++ filled_pattern 3 (behind_point word)) else None) is)
