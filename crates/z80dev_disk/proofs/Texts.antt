-- Texts, as CP/M keeps them and as the host does.
use Rattle.std.proofs.Common.{◌≡◌, ◌<◌, ◌+◌, ◌==◌, ℕ, Bool, arith, drop, length, slice_index, true, false, ◌&&◌, ◌||◌, not, List, [], ◌∷◌, ◌++◌, flat_map, if◌then◌else◌, replicate, take, take_while, refl, sym, ap, ap₂, ◌∙◌, inl, inr, append_assoc, one-add, eqb-true}
use Rattle.std.specs.List.{list_any, prefix_len}
use Rattle.std.proofs.lemmas.Bool.{cases_Bool, or_from, or_parts}
use Rattle.std.proofs.lemmas.List.Folds.{list_any-append}
use Rattle.z80dev_disk.specs.Text.{begins_with_line_feed, cpm_byte, cpm_text, host_text, without_cr}

-- a text in the form of CP/M never begins with LF
no_line : (text : List ℕ) → begins_with_line_feed (flat_map cpm_byte text) ≡ false
no_line [] = refl
no_line (b ∷ text) = elim (cases_Bool (b == 10)) as (λ _. begins_with_line_feed (flat_map cpm_byte (b ∷ text)) ≡ false) [
  | inl line ↦ ap (λ t. begins_with_line_feed ((if t then 13 ∷ 10 ∷ [] else b ∷ []) ++ flat_map cpm_byte text)) line
  | inr other ↦ ap (λ t. begins_with_line_feed ((if t then 13 ∷ 10 ∷ [] else b ∷ []) ++ flat_map cpm_byte text)) other ∙ other
]

-- a byte stays unless it is a CR before an LF
pub stays : (b : ℕ) (rest : List ℕ) → ((b == 13) && begins_with_line_feed rest) ≡ false → without_cr (b ∷ rest) ≡ b ∷ without_cr rest
unfolding without_cr
stays b rest not_so = ap (λ t. if t then without_cr rest else b ∷ without_cr rest) not_so

pub goes : (b : ℕ) (rest : List ℕ) → ((b == 13) && begins_with_line_feed rest) ≡ true → without_cr (b ∷ rest) ≡ without_cr rest
unfolding without_cr
goes b rest so = ap (λ t. if t then without_cr rest else b ∷ without_cr rest) so

-- the same for the first byte of a text
pub first_stays : (text : List ℕ) → 0 < length text → ((slice_index text 0 == 13) && begins_with_line_feed (drop 1 text)) ≡ false → without_cr text ≡ take 1 text ++ without_cr (drop 1 text)
first_stays [] some not_so = absurd (omega (arith, some))
first_stays (b ∷ rest) some not_so = stays b rest not_so

pub first_goes : (text : List ℕ) → 0 < length text → ((slice_index text 0 == 13) && begins_with_line_feed (drop 1 text)) ≡ true → without_cr text ≡ without_cr (drop 1 text)
first_goes [] some so = absurd (omega (arith, some))
first_goes (b ∷ rest) some so = goes b rest so

pub none_left : without_cr [] ≡ []
unfolding without_cr
none_left = refl

-- each CR LF becomes LF again
lines_back : (text : List ℕ) → without_cr (flat_map cpm_byte text) ≡ text
lines_back [] = none_left
lines_back (b ∷ text) = elim (cases_Bool (b == 10)) as (λ _. without_cr (flat_map cpm_byte (b ∷ text)) ≡ b ∷ text) [
  | inl line ↦ (
      let rest = flat_map cpm_byte text in
      ap (λ t. without_cr ((if t then 13 ∷ 10 ∷ [] else b ∷ []) ++ rest)) line
      ∙ goes 13 (10 ∷ rest) refl ∙ stays 10 rest refl ∙ ap₂ (λ x xs. x ∷ xs) (sym (eqb-true b 10 line)) (lines_back text))
  | inr other ↦ (
      let rest = flat_map cpm_byte text in
      ap (λ t. without_cr ((if t then 13 ∷ 10 ∷ [] else b ∷ []) ++ rest)) other
      ∙ stays b rest (ap (λ t. (b == 13) && t) (no_line text) ∙ and_false (b == 13)) ∙ ap (λ xs. b ∷ xs) (lines_back text))
]
  where
    and_false : (t : Bool) → (t && false) ≡ false
    and_false true = refl
    and_false false = refl

-- a text without 1AH has none in its form of CP/M, apart from the one at the end
no_end : (text : List ℕ) → list_any (λ b. b == 0x1A) text ≡ false → list_any (λ b. b == 0x1A) (flat_map cpm_byte text) ≡ false
no_end [] none = refl
no_end (b ∷ text) none =
    let (here, rest) = or_parts (b == 0x1A) (list_any (λ c. c == 0x1A) text) none in
    list_any-append (λ c. c == 0x1A) (cpm_byte b) (flat_map cpm_byte text) ∙ or_from (list_any (λ c. c == 0x1A) (cpm_byte b)) (list_any (λ c. c == 0x1A) (flat_map cpm_byte text)) (in_byte (b == 10) here) (no_end text rest)
  where
    in_byte : (line : Bool) → (b == 0x1A) ≡ false → list_any (λ c. c == 0x1A) (if line then 13 ∷ 10 ∷ [] else b ∷ []) ≡ false
    in_byte true here = refl
    in_byte false here = ap (λ t. t || false) here

-- the bytes before the first 1AH
before_end : (xs ys : List ℕ) → list_any (λ b. b == 0x1A) xs ≡ false → take_while (λ b. not (b == 0x1A)) (xs ++ 0x1A ∷ ys) ≡ xs
before_end [] ys none = refl
before_end (x ∷ xs) ys none =
    let (here, rest) = or_parts (x == 0x1A) (list_any (λ b. b == 0x1A) xs) none in
    let n = prefix_len (λ b. not (b == 0x1A)) (xs ++ 0x1A ∷ ys) in
    ap (λ t. take (if not t then 1 + n else 0) (x ∷ (xs ++ 0x1A ∷ ys))) here ∙ ap (λ m. take m (x ∷ (xs ++ 0x1A ∷ ys))) (one-add n) ∙ ap (λ zs. x ∷ zs) (before_end xs ys rest)

-- A text comes back from its form of CP/M.
pub text_comes_back : (text : List ℕ) (n : ℕ) → list_any (λ b. b == 0x1A) text ≡ false → host_text (cpm_text text ++ replicate n 0x1A) ≡ text
text_comes_back text n none =
    let kept = flat_map cpm_byte text in
    ap host_text (append_assoc kept (0x1A ∷ []) (replicate n 0x1A)) ∙ ap without_cr (before_end kept (replicate n 0x1A) (no_end text none)) ∙ lines_back text
