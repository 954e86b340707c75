-- A text without a pair of letters that block words contain has no block word.
use Rattle.std.proofs.Common.{◌≡◌, inl, inr, ◌∙◌, not, sym, ap, refl, ℕ, true, false, List, [], ◌∷◌, ◌++◌, append_assoc, codes}
use Rattle.std.specs.Char.{to_ascii_lowercase}
use Rattle.std.specs.List.{list_any}
use Rattle.std.specs.Str.{str_eq_ignore_ascii_case, str_to_ascii_lowercase}
use Rattle.std.proofs.lemmas.Bool.{cases_Bool, false≢true, or_cases, or_from, or_left, or_right}
use Rattle.std.proofs.lemmas.List.{append-nil}
use Rattle.std.proofs.lemmas.List.Splits.{slice_split-cons_no, slice_split-cons_yes}
use Rattle.std.proofs.lemmas.Slice.Eq.{bytes_eq-Decides}
use Rattle.asm_line.specs.Classes.{continues_name}
use Rattle.asm_text.specs.declared.signs.Sign.{Sign}
use Rattle.asm_text.specs.Private.Pairs.{has_pair, is_pair, paired}
use Rattle.asm_text.specs.Signs.{is_sign, words}
use Rattle.asm_text.proofs.Words.{flipped, put, put_alone, put_none, put_on, turned, without}

behind_any : (b : ℕ) (bytes : List ℕ) → paired 0 bytes ≡ true → paired b bytes ≡ true
behind_any b [] p = p
behind_any b (c ∷ bytes) p =
    elim (or_cases (is_pair 0 c) (paired c bytes) p) [
      | inl here ↦ absurd (false≢true here)
      | inr later ↦ or_right (is_pair b c) (paired c bytes) later
    ]

in_front : (b : ℕ) (xs ys : List ℕ) → paired b xs ≡ true → paired b (xs ++ ys) ≡ true
in_front b [] ys p = absurd (false≢true p)
in_front b (x ∷ xs) ys p =
    elim (or_cases (is_pair b x) (paired x xs) p) [
      | inl here ↦ or_left (is_pair b x) (paired x (xs ++ ys)) here
      | inr later ↦ or_right (is_pair b x) (paired x (xs ++ ys)) (in_front x xs ys later)
    ]

behind : (b : ℕ) (xs ys : List ℕ) → paired 0 ys ≡ true → paired b (xs ++ ys) ≡ true
behind b [] ys p = behind_any b ys p
behind b (x ∷ xs) ys p = or_right (is_pair b x) (paired x (xs ++ ys)) (behind x xs ys p)

lower_append : (xs ys : List ℕ) → str_to_ascii_lowercase (xs ++ ys) ≡ str_to_ascii_lowercase xs ++ str_to_ascii_lowercase ys
lower_append [] ys = refl
lower_append (x ∷ xs) ys = ap (λ l. to_ascii_lowercase x ∷ l) (lower_append xs ys)

front_none : (xs ys : List ℕ) → has_pair (xs ++ ys) ≡ false → has_pair xs ≡ false
front_none xs ys none = without (has_pair xs) (λ p. false≢true (sym none ∙ ap (paired 0) (lower_append xs ys) ∙ in_front 0 (str_to_ascii_lowercase xs) (str_to_ascii_lowercase ys) p))

behind_none : (xs ys : List ℕ) → has_pair (xs ++ ys) ≡ false → has_pair ys ≡ false
behind_none xs ys none = without (has_pair ys) (λ p. false≢true (sym none ∙ ap (paired 0) (lower_append xs ys) ∙ behind 0 (str_to_ascii_lowercase xs) (str_to_ascii_lowercase ys) p))

-- A text without a pair is not a word that contains one.
not_word : (text word : List ℕ) → has_pair word ≡ true → has_pair text ≡ false → str_eq_ignore_ascii_case text word ≡ false
not_word text word has none =
    without (str_eq_ignore_ascii_case text word) (λ same. false≢true (sym none ∙ ap (paired 0) ((bytes_eq-Decides (str_to_ascii_lowercase text) (str_to_ascii_lowercase word)).0 same) ∙ has))

no_sign : (s : Sign) (word : List ℕ) → has_pair word ≡ false → is_sign s word ≡ false
no_sign Sign.Word word none =
    or_from _ _ (not_word word (codes "IF") refl none)
    (or_from _ _ (not_word word (codes "ENDIF") refl none)
    (or_from _ _ (not_word word (codes "ELSE") refl none)
    (or_from _ _ (not_word word (codes "MACRO") refl none)
    (or_from _ _ (not_word word (codes "REPT") refl none)
    (or_from _ _ (not_word word (codes "ENDM") refl none) refl)))))
no_sign Sign.Second word none = not_word word (codes "MACRO") refl none

none_behind : (s : Sign) (word text : List ℕ) → has_pair (word ++ text) ≡ false → list_any (is_sign s) (put word (words text)) ≡ false
none_behind s word [] none = ap (list_any (is_sign s)) (put_alone word []) ∙ or_from (is_sign s (word ++ [])) false (no_sign s (word ++ []) none) refl
none_behind s word (b ∷ bs) none =
    elim (cases_Bool (continues_name b)) [
      | inl named ↦
          ap (λ ws. list_any (is_sign s) (put word ws)) (slice_split-cons_no (λ c. not (continues_name c)) b bs (turned (continues_name b) named))
          ∙ ap (list_any (is_sign s)) (sym (put_on word b (words bs)))
          ∙ none_behind s (word ++ b ∷ []) bs (ap has_pair (append_assoc word (b ∷ []) bs) ∙ none)
      | inr other ↦
          ap (λ ws. list_any (is_sign s) (put word ws)) (slice_split-cons_yes (λ c. not (continues_name c)) b bs (flipped (continues_name b) other))
          ∙ ap (list_any (is_sign s)) (put_alone word (words bs))
          ∙ or_from (is_sign s (word ++ [])) (list_any (is_sign s) (words bs)) (no_sign s (word ++ []) (ap has_pair (append-nil word) ∙ front_none word (b ∷ bs) none))
          (sym (put_none s (words bs)) ∙ none_behind s [] bs (behind_none (word ++ b ∷ []) bs (ap has_pair (append_assoc word (b ∷ []) bs) ∙ none)))
    ]

pub no_pair : (s : Sign) (text : List ℕ) → has_pair text ≡ false → list_any (is_sign s) (words text) ≡ false
no_pair s text none = sym (put_none s (words text)) ∙ none_behind s [] text none
