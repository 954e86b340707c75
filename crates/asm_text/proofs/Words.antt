-- Whether a text has a sign, read byte by byte, and at the front of a line.
use Rattle.std.proofs.Common.{◌≡◌, inl, inr, ◌==◌, ◌∙◌, ◌||◌, not, sym, ap, refl, ℕ, Bool, true, false, List, [], ◌∷◌, ◌++◌, if◌then◌else◌, append_assoc, arith, codes, get_or}
use Rattle.std.specs.Char.{is_ascii_alphabetic, is_ascii_digit, to_ascii_lowercase}
use Rattle.std.specs.List.{AllPass, list_any, onto_first}
use Rattle.std.specs.Str.{str_eq_ignore_ascii_case, str_to_ascii_lowercase}
use Rattle.std.proofs.lemmas.Bool.{cases_Bool, cond-false, cond-true, eqb-true, false≢true, or_from, or_parts}
use Rattle.std.proofs.lemmas.Bool.Decides.{nat_tests}
use Rattle.std.proofs.lemmas.List.{append-nil}
use Rattle.std.proofs.lemmas.List.Elements.{All-head, All-tail}
use Rattle.std.proofs.lemmas.List.Splits.{slice_split-cons_no, slice_split-cons_yes}
use Rattle.std.proofs.lemmas.Slice.Eq.{bytes_eq-Decides}
use Rattle.asm_line.specs.Classes.{begins_name, continues_name}
use Rattle.asm_line.specs.Tokens.{BeginsWithout}
use Rattle.asm_text.specs.declared.signs.Sign.{Sign}
use Rattle.asm_text.specs.Signs.{has_sign, is_sign, words}

pub without : (b : Bool) → (b ≡ true → ⊥) → b ≡ false
without true never = absurd (never refl)
without false never = refl

pub flipped : (b : Bool) → b ≡ false → not b ≡ true
flipped false e = refl
flipped true e = absurd (false≢true (sym e))

pub turned : (b : Bool) → b ≡ true → not b ≡ false
turned true e = refl
turned false e = absurd (false≢true e)

-- whether a byte is a sign by itself
abbrev pub is_mark : Sign → ℕ → Bool
is_mark Sign.Word b = false
is_mark Sign.Second b = b == 0x3A

no_mark : (s : Sign) (b : ℕ) → continues_name b ≡ true → is_mark s b ≡ false
no_mark Sign.Word b named = refl
no_mark Sign.Second b named = without (b == 0x3A) (λ colon. false≢true (ap continues_name (sym (eqb-true b 0x3A colon)) ∙ named))

-- whether a text has a sign, given the word that was read before it
pub found : Sign → List ℕ → List ℕ → Bool
found s word [] = is_sign s word
found s word (b ∷ bs) = if continues_name b then found s (word ++ b ∷ []) bs else (is_sign s word || is_mark s b) || found s [] bs

pub found_end : (s : Sign) (word : List ℕ) → found s word [] ≡ is_sign s word
unfolding found
found_end s word = refl

pub found_in : (s : Sign) (word : List ℕ) (b : ℕ) (bs : List ℕ) → continues_name b ≡ true → found s word (b ∷ bs) ≡ found s (word ++ b ∷ []) bs
unfolding found
found_in s word b bs named = cond-true (continues_name b) _ _ named

pub found_out : (s : Sign) (word : List ℕ) (b : ℕ) (bs : List ℕ) → continues_name b ≡ false → found s word (b ∷ bs) ≡ ((is_sign s word || is_mark s b) || found s [] bs)
unfolding found
found_out s word b bs other = cond-false (continues_name b) _ _ other

-- Reading byte by byte answers the same as `has_sign`.

pub empty : (s : Sign) → is_sign s [] ≡ false
empty Sign.Word = refl
empty Sign.Second = refl

pub put : List ℕ → List (List ℕ) → List (List ℕ)
put word [] = word ∷ []
put word (w ∷ ws) = (word ++ w) ∷ ws

pub put_on : (word : List ℕ) (b : ℕ) (ws : List (List ℕ)) → put (word ++ b ∷ []) ws ≡ put word (onto_first b ws)
unfolding put
put_on word b [] = refl
put_on word b (w ∷ ws) = ap (λ x. x ∷ ws) (append_assoc word (b ∷ []) w)

pub put_none : (s : Sign) (ws : List (List ℕ)) → list_any (is_sign s) (put [] ws) ≡ list_any (is_sign s) ws
unfolding put
put_none s [] = ap (λ b. b || false) (empty s)
put_none s (w ∷ ws) = refl

pub put_alone : (word : List ℕ) (ws : List (List ℕ)) → put word ([] ∷ ws) ≡ (word ++ []) ∷ ws
unfolding put
put_alone word ws = refl

or_none : (b : Bool) → (b || false) ≡ b
or_none true = refl
or_none false = refl

joined : (a b c : Bool) → (a || (b || c)) ≡ ((a || b) || c)
joined true b c = refl
joined false b c = refl

crossed : (a m w x : Bool) → ((a || m) || (w || x)) ≡ ((a || w) || (m || x))
crossed true m w x = refl
crossed false true true x = refl
crossed false true false x = refl
crossed false false w x = refl

abbrev in_words : Sign → List (List ℕ) → List ℕ → Bool
in_words s ws text = list_any (is_sign s) ws || list_any (is_mark s) text

found_words : (s : Sign) (word text : List ℕ) → found s word text ≡ in_words s (put word (words text)) text
unfolding put
found_words s word [] = found_end s word ∙ ap (is_sign s) (sym (append-nil word)) ∙ sym (or_none (is_sign s (word ++ []))) ∙ sym (or_none (is_sign s (word ++ []) || false))
found_words s word (b ∷ bs) =
    elim (cases_Bool (continues_name b)) [
      | inl named ↦
          found_in s word b bs named ∙ found_words s (word ++ b ∷ []) bs
          ∙ ap (λ ws. in_words s ws bs) (put_on word b (words bs) ∙ ap (put word) (sym (slice_split-cons_no (λ c. not (continues_name c)) b bs (turned (continues_name b) named))))
          ∙ ap (λ m. list_any (is_sign s) (put word (words (b ∷ bs))) || (m || list_any (is_mark s) bs)) (sym (no_mark s b named))
      | inr other ↦
          found_out s word b bs other
          ∙ ap (λ f. (is_sign s word || is_mark s b) || f) (found_words s [] bs ∙ ap (λ w. w || list_any (is_mark s) bs) (put_none s (words bs)))
          ∙ crossed (is_sign s word) (is_mark s b) (list_any (is_sign s) (words bs)) (list_any (is_mark s) bs)
          ∙ ap (λ w. in_words s (w ∷ words bs) (b ∷ bs)) (sym (append-nil word))
          ∙ ap (λ ws. in_words s (put word ws) (b ∷ bs)) (sym (slice_split-cons_yes (λ c. not (continues_name c)) b bs (flipped (continues_name b) other)))
    ]

none_marked : (text : List ℕ) → list_any (is_mark Sign.Word) text ≡ false
none_marked [] = refl
none_marked (b ∷ bs) = none_marked bs

pub read : (s : Sign) (text : List ℕ) → has_sign s text ≡ found s [] text
read Sign.Word text = sym (found_words Sign.Word [] text ∙ ap (λ w. w || list_any (is_mark Sign.Word) text) (put_none Sign.Word (words text)) ∙ ap (λ m. has_sign Sign.Word text || m) (none_marked text) ∙ or_none (has_sign Sign.Word text))
read Sign.Second text = sym (found_words Sign.Second [] text ∙ ap (λ w. w || list_any (is_mark Sign.Second) text) (put_none Sign.Second (words text)))

-- A word that does not begin with a letter is no sign.

other_letter : (b c : ℕ) (more word : List ℕ) → is_ascii_alphabetic b ≡ false → is_ascii_alphabetic (to_ascii_lowercase c) ≡ true → str_eq_ignore_ascii_case (b ∷ more) (c ∷ word) ≡ false
other_letter b c more word other letter =
    let small : is_ascii_alphabetic (to_ascii_lowercase b) ≡ false = grind (arith, nat_tests, other) in
    without (str_eq_ignore_ascii_case (b ∷ more) (c ∷ word)) (λ same.
    let first : to_ascii_lowercase b ≡ to_ascii_lowercase c = ap (λ l. get_or l 0 0) ((bytes_eq-Decides (str_to_ascii_lowercase (b ∷ more)) (str_to_ascii_lowercase (c ∷ word))).0 same) in
    false≢true (sym small ∙ ap is_ascii_alphabetic first ∙ letter))

pub no_letter : (s : Sign) (b : ℕ) (more : List ℕ) → is_ascii_alphabetic b ≡ false → is_sign s (b ∷ more) ≡ false
no_letter Sign.Word b more other =
    or_from _ _ (other_letter b 0x49 more (codes "F") other refl)
    (or_from _ _ (other_letter b 0x45 more (codes "NDIF") other refl)
    (or_from _ _ (other_letter b 0x45 more (codes "LSE") other refl)
    (or_from _ _ (other_letter b 0x4D more (codes "ACRO") other refl)
    (or_from _ _ (other_letter b 0x52 more (codes "EPT") other refl)
    (or_from _ _ (other_letter b 0x45 more (codes "NDM") other refl) refl)))))
no_letter Sign.Second b more other = other_letter b 0x4D more (codes "ACRO") other refl

-- Signs in a text after a word, and in what follows a text.

pub name_letter : (b : ℕ) → continues_name b ≡ false → is_ascii_alphabetic b ≡ false
name_letter b other = (or_parts (is_ascii_alphabetic b) _ (or_parts (begins_name b) (is_ascii_digit b) other).0).0

module _ (s : Sign) where
  -- after a byte that continues no name, a new word begins
  pub out : (word : List ℕ) (b : ℕ) (bs : List ℕ) → continues_name b ≡ false → found s word (b ∷ bs) ≡ false → (is_sign s word ≡ false) × (is_mark s b ≡ false) × (found s [] bs ≡ false)
  out word b bs other none =
      let two = or_parts (is_sign s word || is_mark s b) (found s [] bs) (sym (found_out s word b bs other) ∙ none) in
      let first = or_parts (is_sign s word) (is_mark s b) two.0 in
      (first.0, first.1, two.1)

  pub out_from : (word : List ℕ) (b : ℕ) (bs : List ℕ) → continues_name b ≡ false → is_sign s word ≡ false → is_mark s b ≡ false → found s [] bs ≡ false → found s word (b ∷ bs) ≡ false
  out_from word b bs other none mark on = found_out s word b bs other ∙ or_from (is_sign s word || is_mark s b) (found s [] bs) (or_from (is_sign s word) (is_mark s b) none mark) on

  -- A word that does not begin with a letter makes no sign with what follows.
  other_word : (word : List ℕ) (b : ℕ) (more text : List ℕ) → is_ascii_alphabetic b ≡ false → found s word text ≡ false → found s (b ∷ more) text ≡ false
  other_word word b more [] other none = found_end s (b ∷ more) ∙ no_letter s b more other
  other_word word b more (x ∷ xs) other none =
      elim (cases_Bool (continues_name x)) [
        | inl named ↦ found_in s (b ∷ more) x xs named ∙ other_word (word ++ x ∷ []) b (more ++ x ∷ []) xs other (sym (found_in s word x xs named) ∙ none)
        | inr not_named ↦ let parts = out word x xs not_named none in out_from (b ∷ more) x xs not_named (no_letter s b more other) parts.1 parts.2
      ]

  -- A text that does not begin with a letter has no sign by itself if it has none after some word.
  pub afresh : (word text : List ℕ) → BeginsWithout is_ascii_alphabetic text → found s word text ≡ false → found s [] text ≡ false
  afresh word [] other none = found_end s [] ∙ empty s
  afresh word (x ∷ xs) other none =
      elim (cases_Bool (continues_name x)) [
        | inl named ↦ found_in s [] x xs named ∙ other_word (word ++ x ∷ []) x [] xs other (sym (found_in s word x xs named) ∙ none)
        | inr not_named ↦ let parts = out word x xs not_named none in out_from [] x xs not_named (empty s) parts.1 parts.2
      ]

  -- The word is empty or does not begin with a letter.
  abbrev pub Free : List ℕ → Type 0
  Free word = BeginsWithout is_ascii_alphabetic word

  pub free_none : (word : List ℕ) → Free word → is_sign s word ≡ false
  free_none [] free = empty s
  free_none (b ∷ more) free = no_letter s b more free

  pub free_front : (word text : List ℕ) → Free word → found s [] text ≡ false → found s word text ≡ false
  free_front [] text free none = none
  free_front (b ∷ more) text free none = other_word [] b more text free none

  -- A word that is no sign and ends before a text adds no sign to it.
  pub before : (word text : List ℕ) → is_sign s word ≡ false → BeginsWithout continues_name text → found s [] text ≡ false → found s word text ≡ false
  before word [] none other on = found_end s word ∙ none
  before word (x ∷ xs) none other on = let parts = out [] x xs other on in out_from word x xs other none parts.1 parts.2

  -- If what follows has no sign after any word that is no sign, the whole has none.
  pub over : (word xs ys : List ℕ) → found s word xs ≡ false → ((w : List ℕ) → is_sign s w ≡ false → found s w ys ≡ false) → found s word (xs ++ ys) ≡ false
  over word [] ys none on = on word (sym (found_end s word) ∙ none)
  over word (x ∷ xs) ys none on =
      elim (cases_Bool (continues_name x)) [
        | inl named ↦ found_in s word x (xs ++ ys) named ∙ over (word ++ x ∷ []) xs ys (sym (found_in s word x xs named) ∙ none) on
        | inr other ↦ let parts = out word x xs other none in out_from word x (xs ++ ys) other parts.0 parts.1 (over [] xs ys parts.2 on)
      ]

  -- bytes that continue a word belong to it
  pub run_on : (word text ys : List ℕ) → AllPass continues_name text → found s word (text ++ ys) ≡ found s (word ++ text) ys
  run_on word [] ys all = ap (λ w. found s w ys) (sym (append-nil word))
  run_on word (b ∷ bs) ys all =
      found_in s word b (bs ++ ys) (All-head (λ x. continues_name x ≡ true) b bs all)
      ∙ run_on (word ++ b ∷ []) bs ys (All-tail (λ x. continues_name x ≡ true) b bs all)
      ∙ ap (λ w. found s w ys) (append_assoc word (b ∷ []) bs)

  -- A text that ends with a byte that continues no name can be read apart from what follows it.
  pub ended : (word front : List ℕ) (e : ℕ) (ys : List ℕ) → continues_name e ≡ false → found s word ((front ++ e ∷ []) ++ ys) ≡ (found s word (front ++ e ∷ []) || found s [] ys)
  ended word [] e ys other =
      let m = is_sign s word || is_mark s e in
      found_out s word e ys other ∙ ap (λ b. b || found s [] ys) (sym (found_out s word e [] other ∙ ap (λ b. m || b) (found_end s [] ∙ empty s) ∙ or_none m))
  ended word (x ∷ xs) e ys other =
      elim (cases_Bool (continues_name x)) [
        | inl named ↦ found_in s word x ((xs ++ e ∷ []) ++ ys) named ∙ ended (word ++ x ∷ []) xs e ys other ∙ ap (λ b. b || found s [] ys) (sym (found_in s word x (xs ++ e ∷ []) named))
        | inr not_named ↦
            let m = is_sign s word || is_mark s x in
            found_out s word x ((xs ++ e ∷ []) ++ ys) not_named
            ∙ ap (λ b. m || b) (ended [] xs e ys other)
            ∙ joined m (found s [] (xs ++ e ∷ [])) (found s [] ys)
            ∙ ap (λ b. b || found s [] ys) (sym (found_out s word x (xs ++ e ∷ []) not_named))
      ]
