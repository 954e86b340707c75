-- Names and patterns that words give.
use Rattle.std.proofs.Common.{◌≡◌, ◌<◌, ◌≤◌, ◌+◌, ◌-◌, ◌==◌, ℕ, zero, suc, true, false, ◌&&◌, not, List, [], ◌∷◌, ◌++◌, Some, None, drop, length, replicate, if◌then◌else◌, refl, ap, subst, ◌∙◌, arith, ne_eqb, leb-true}
use Rattle.std.specs.List.{list_all, prefix_len, suffix_len}
use Rattle.std.proofs.lemmas.Bool.{and_parts, false_from_ne_true, or_from}
use Rattle.std.proofs.lemmas.List.{drop-append-le, drop_all, length-append, length-drop, length-take, reverse-append}
use Rattle.std.proofs.lemmas.List.Folds.{list_any-append}
use Rattle.z80dev_disk.specs.Words.{before_point, behind_point, padded, is_file_name, is_name_byte, is_name_part, is_wild, last_part, file_name_of, point_at}

-- ---- no name is a pattern of others

plain_byte : (b : ℕ) → is_name_byte b ≡ true → (b == 0x3F) ≡ false
plain_byte b is = ne_eqb b 0x3F (λ mark. let not_one : is_name_byte 0x3F ≡ true = subst (λ c. is_name_byte c ≡ true) mark is in absurd cc)

plain_bytes : (part : List ℕ) → list_all is_name_byte part ≡ true → is_wild part ≡ false
plain_bytes [] all = refl
plain_bytes (b ∷ part) all =
    let (first, rest) = and_parts (is_name_byte b) (list_all is_name_byte part) all in
    or_from (b == 0x3F) (is_wild part) (plain_byte b first) (plain_bytes part rest)

plain_spaces : (n : ℕ) → is_wild (replicate n 0x20) ≡ false
plain_spaces zero = refl
plain_spaces (suc n) = plain_spaces n

plain_part : (n most : ℕ) (part : List ℕ) → is_name_part part most ≡ true → is_wild (padded n part) ≡ false
plain_part n most part is =
    let (short, all) = and_parts _ _ is in
    list_any-append (λ b. b == 0x3F) part (replicate (n - length part) 0x20) ∙ or_from (is_wild part) (is_wild (replicate (n - length part) 0x20)) (plain_bytes part all) (plain_spaces (n - length part))

pub plain_name : (word : List ℕ) → is_file_name word ≡ true → is_wild (padded 8 (before_point word) ++ padded 3 (behind_point word)) ≡ false
plain_name word is =
    let (front, back) = and_parts (not (length (before_point word) == 0) && is_name_part (before_point word) 8) (is_name_part (behind_point word) 3) is in
    let (some, good) = and_parts (not (length (before_point word) == 0)) (is_name_part (before_point word) 8) front in
    list_any-append (λ b. b == 0x3F) (padded 8 (before_point word)) (padded 3 (behind_point word))
    ∙ or_from (is_wild (padded 8 (before_point word))) (is_wild (padded 3 (behind_point word))) (plain_part 8 8 (before_point word) good) (plain_part 3 3 (behind_point word) back)

-- ---- names are short

pub too_long : (word : List ℕ) → 12 < length word → file_name_of word ≡ None
too_long word long = ap (λ b. if b then Some (padded 8 (before_point word) ++ padded 3 (behind_point word)) else None) (false_from_ne_true (is_file_name word) never)
  where
    never : is_file_name word ≡ true → ⊥
    never is =
        let (front, back) = and_parts (not (length (before_point word) == 0) && is_name_part (before_point word) 8) (is_name_part (behind_point word) 3) is in
        let (some, good) = and_parts (not (length (before_point word) == 0)) (is_name_part (before_point word) 8) front in
        let eight : length (before_point word) ≤ 8 = leb-true (length (before_point word)) 8 (and_parts _ _ good).0 in
        let three : length (behind_point word) ≤ 3 = leb-true (length (behind_point word)) 3 (and_parts _ _ back).0 in
        omega (arith, long, eight, three, length-take (point_at word) word, length-drop (point_at word + 1) word)

-- ---- the last part of a path

-- the number of bytes after the last `/` of a path to which one byte is added
behind : (xs : List ℕ) (b : ℕ) → suffix_len (λ c. not (c == 0x2F)) (xs ++ b ∷ []) ≡ (if not (b == 0x2F) then 1 + suffix_len (λ c. not (c == 0x2F)) xs else 0)
behind xs b = ap (prefix_len (λ c. not (c == 0x2F))) (reverse-append xs (b ∷ []))

pub part_ends : (xs : List ℕ) (b : ℕ) → (b == 0x2F) ≡ true → last_part (xs ++ b ∷ []) ≡ []
part_ends xs b is =
    let none : suffix_len (λ c. not (c == 0x2F)) (xs ++ b ∷ []) ≡ 0 = behind xs b ∙ ap (λ t. if not t then 1 + suffix_len (λ c. not (c == 0x2F)) xs else 0) is in
    drop_all (length (xs ++ b ∷ []) - suffix_len (λ c. not (c == 0x2F)) (xs ++ b ∷ [])) (xs ++ b ∷ []) (omega (arith, none))

pub part_grows : (xs : List ℕ) (b : ℕ) → (b == 0x2F) ≡ false → last_part (xs ++ b ∷ []) ≡ last_part xs ++ b ∷ []
part_grows xs b other =
    let n = suffix_len (λ c. not (c == 0x2F)) xs in
    let more : suffix_len (λ c. not (c == 0x2F)) (xs ++ b ∷ []) ≡ 1 + n = behind xs b ∙ ap (λ t. if not t then 1 + n else 0) other in
    let longer : length (xs ++ b ∷ []) ≡ length xs + 1 = length-append xs (b ∷ []) in
    let left : length (xs ++ b ∷ []) - suffix_len (λ c. not (c == 0x2F)) (xs ++ b ∷ []) ≡ length xs - n = omega (arith, more, longer) in
    ap (λ k. drop k (xs ++ b ∷ [])) left ∙ drop-append-le (length xs - n) xs (b ∷ []) (omega arith)
