-- Whether the rest of a line has a sign, token by token.
use Rattle.std.proofs.Common.{◌≡◌, ◌⊎◌, inl, inr, ◌==◌, ◌∙◌, ◌||◌, sym, ap, refl, subst, ℕ, true, false, List, [], ◌∷◌, ◌++◌, append_assoc, arith}
use Rattle.std.specs.Char.{is_ascii_alphabetic, is_ascii_alphanumeric, is_ascii_digit}
use Rattle.std.specs.Int.{is_in_range}
use Rattle.std.specs.List.{AllPass}
use Rattle.std.proofs.lemmas.Bool.{cases_Bool, cond-false, cond-true, eqb-true, or_cases, or_left, or_parts, or_right}
use Rattle.std.proofs.lemmas.Bool.Decides.{nat_tests}
use Rattle.std.proofs.lemmas.List.Elements.{All-cons, All-head, All-nil, All-tail}
use Rattle.std.proofs.lemmas.List.Sums.{take_while-cons}
use Rattle.asm_line.specs.declared.token.Kind.{Kind}
use Rattle.asm_line.specs.declared.token.Mark.{Mark}
use Rattle.asm_line.specs.Classes.{begins_name, continues_name, is_blank, is_quote}
use Rattle.asm_line.specs.Lines.{BeginsToken}
use Rattle.asm_line.specs.Tokens.{BeginsWithout, IsName, IsNumber, IsToken, Lexeme, doubled, mark_byte}
use Rattle.asm_line.proofs.Replaced.Fronts.{whole_line}
use Rattle.asm_line.specs.Replacing.Pieces.{gap}
use Rattle.asm_text.specs.declared.signs.Sign.{Sign}
use Rattle.asm_text.specs.Signs.{is_sign}
use Rattle.asm_text.proofs.Words.{afresh, empty, ended, found, found_end, found_out, is_mark, name_letter, out, out_from, run_on}

-- Bytes that continue a name, and bytes that do not.

alphanumeric_named : (b : ℕ) → is_ascii_alphanumeric b ≡ true → continues_name b ≡ true
alphanumeric_named b passes =
    elim (or_cases (is_in_range 48 57 b || is_in_range 65 90 b) (is_in_range 97 122 b) passes) [
      | inl first ↦ elim (or_cases (is_in_range 48 57 b) (is_in_range 65 90 b) first) [
        | inl digit ↦ or_right (begins_name b) (is_ascii_digit b) digit
        | inr large ↦ letter (or_left (is_in_range 65 90 b) (is_in_range 97 122 b) large)
      ]
      | inr small ↦ letter (or_right (is_in_range 65 90 b) (is_in_range 97 122 b) small)
    ]
  where
    letter : is_ascii_alphabetic b ≡ true → continues_name b ≡ true
    letter is = or_left (begins_name b) (is_ascii_digit b) (or_left (is_ascii_alphabetic b) _ is)

no_alphanumeric : (b : ℕ) → is_ascii_alphanumeric b ≡ false → is_ascii_alphabetic b ≡ false
no_alphanumeric b other = grind (arith, nat_tests, other)

pub digit_no_letter : (b : ℕ) → is_ascii_digit b ≡ true → is_ascii_alphabetic b ≡ false
digit_no_letter b digit = grind (arith, nat_tests, digit)

blank_named : (b : ℕ) → is_blank b ≡ true → continues_name b ≡ false
blank_named b blank =
    elim (or_cases (b == 0x20) (b == 0x09) blank) [
      | inl space ↦ ap continues_name (eqb-true b 0x20 space)
      | inr tab ↦ ap continues_name (eqb-true b 0x09 tab)
    ]

blank_mark : (s : Sign) (b : ℕ) → is_blank b ≡ true → is_mark s b ≡ false
blank_mark s b blank =
    elim (or_cases (b == 0x20) (b == 0x09) blank) [
      | inl space ↦ ap (is_mark s) (eqb-true b 0x20 space) ∙ space_is s
      | inr tab ↦ ap (is_mark s) (eqb-true b 0x09 tab) ∙ tab_is s
    ]
  where
    space_is : (s : Sign) → is_mark s 0x20 ≡ false
    space_is Sign.Word = refl
    space_is Sign.Second = refl

    tab_is : (s : Sign) → is_mark s 0x09 ≡ false
    tab_is Sign.Word = refl
    tab_is Sign.Second = refl

quote_named : (b : ℕ) → is_quote b ≡ true → continues_name b ≡ false
quote_named b quoted =
    elim (or_cases (b == 0x27) (b == 0x22) quoted) [
      | inl one ↦ ap continues_name (eqb-true b 0x27 one)
      | inr two ↦ ap continues_name (eqb-true b 0x22 two)
    ]

mark_named : (m : Mark) → continues_name (mark_byte m) ≡ false
mark_named Mark.Comma = refl
mark_named Mark.Open = refl
mark_named Mark.Close = refl
mark_named Mark.Colon = refl
mark_named Mark.Plus = refl
mark_named Mark.Minus = refl
mark_named Mark.Star = refl
mark_named Mark.Slash = refl
mark_named Mark.Dollar = refl

-- How the text of a token ends.

pub all_named : (text : List ℕ) → IsName text → AllPass continues_name text
all_named [] never = absurd never
all_named (b ∷ more) name = All-cons (λ x. continues_name x ≡ true) b more (or_left (begins_name b) (is_ascii_digit b) name.0) name.1

pub number_named : (text : List ℕ) → IsNumber text → AllPass continues_name text
number_named [] never = absurd never
number_named (b ∷ more) number = All-cons (λ x. continues_name x ≡ true) b more (or_right (begins_name b) (is_ascii_digit b) number.0) (all more number.1) where
  all : (xs : List ℕ) → AllPass is_ascii_alphanumeric xs → AllPass continues_name xs
  all [] passes = All-nil (λ x. continues_name x ≡ true)
  all (x ∷ xs) passes = All-cons (λ c. continues_name c ≡ true) x xs (alphanumeric_named x (All-head (λ c. is_ascii_alphanumeric c ≡ true) x xs passes)) (all xs (All-tail (λ c. is_ascii_alphanumeric c ≡ true) x xs passes))

pub no_name_no_letter : (text : List ℕ) → BeginsWithout continues_name text → BeginsWithout is_ascii_alphabetic text
no_name_no_letter [] other = tt
no_name_no_letter (b ∷ bs) other = name_letter b other

number_no_letter : (text : List ℕ) → BeginsWithout is_ascii_alphanumeric text → BeginsWithout is_ascii_alphabetic text
number_no_letter [] other = tt
number_no_letter (b ∷ bs) other = no_alphanumeric b other

-- The text ends with a byte that continues no name.
abbrev pub Ends : List ℕ → Type 0
Ends text = (front : List ℕ) × (e : ℕ) × (text ≡ front ++ e ∷ []) × (continues_name e ≡ false)

-- All bytes of the text continue a name, and no letter follows it.
abbrev pub Runs : List ℕ → List ℕ → Type 0
Runs text after = AllPass continues_name text × BeginsWithout is_ascii_alphabetic after

pub quoted_ends : (text after : List ℕ) → IsToken Kind.Quoted text after → Ends text
quoted_ends text after t = (t.quote ∷ doubled t.quote t.content, t.quote, t.text_is, quote_named t.quote t.quoted)

pub mark_ends : (m : Mark) (text : List ℕ) → text ≡ mark_byte m ∷ [] → Ends text
mark_ends m text is = ([], mark_byte m, is, mark_named m)

ends_or_runs : (k : Kind) (text after : List ℕ) → IsToken k text after → Ends text ⊎ Runs text after
ends_or_runs Kind.Name text after t = inr (all_named text t.0, no_name_no_letter after t.1)
ends_or_runs Kind.OtherAf text after t = inl (t.0, 0x27, t.2, refl)
ends_or_runs (Kind.Number n) text after t = inr (number_named text t.0, number_no_letter after t.1)
ends_or_runs Kind.Quoted text after t = inl (quoted_ends text after t)
ends_or_runs (Kind.Mark m) text after t = inl (mark_ends m text t)

module _ (s : Sign) where
  pub ended_text : (word text ys : List ℕ) → Ends text → found s word (text ++ ys) ≡ (found s word text || found s [] ys)
  ended_text word text ys ends =
      ap (λ t. found s word (t ++ ys)) ends.2 ∙ ended s word ends.0 ends.1 ys ends.3 ∙ ap (λ t. found s word t || found s [] ys) (sym ends.2)

  -- If a text without a sign begins with a token, what follows the token has no sign.
  pub behind_token : (k : Kind) (text after : List ℕ) → IsToken k text after → found s [] (text ++ after) ≡ false → found s [] after ≡ false
  behind_token k text after is none =
      elim (ends_or_runs k text after is) [
        | inl ends ↦ (or_parts (found s [] text) (found s [] after) (sym (ended_text [] text after ends) ∙ none)).1
        | inr runs ↦ afresh s text after runs.1 (sym (run_on s [] text after runs.0) ∙ none)
      ]

  -- If a text has no sign and its first word has ended, that word is no sign.
  pub word_none : (word text : List ℕ) → BeginsWithout continues_name text → found s word text ≡ false → is_sign s word ≡ false
  word_none word [] other none = sym (found_end s word) ∙ none
  word_none word (b ∷ bs) other none = (out s word b bs other none).0

  pub name_none : (text after : List ℕ) → IsToken Kind.Name text after → found s [] (text ++ after) ≡ false → is_sign s text ≡ false
  name_none text after is none = word_none text after is.1 (sym (run_on s [] text after (all_named text is.0)) ∙ none)

  -- Blanks in front of a token.

  abbrev Blanks : List ℕ → Type 0
  Blanks blanks = AllPass is_blank blanks

  pub blanks_are : (line : List ℕ) → Blanks (gap line)
  blanks_are [] = All-nil (λ x. is_blank x ≡ true)
  blanks_are (b ∷ bs) =
      elim (cases_Bool (is_blank b)) [
        | inl blank ↦ subst Blanks (sym (take_while-cons is_blank b bs ∙ cond-true (is_blank b) (b ∷ gap bs) [] blank)) (All-cons (λ x. is_blank x ≡ true) b (gap bs) blank (blanks_are bs))
        | inr other ↦ subst Blanks (sym (take_while-cons is_blank b bs ∙ cond-false (is_blank b) (b ∷ gap bs) [] other)) (All-nil (λ x. is_blank x ≡ true))
      ]

  pub past_blanks : (blanks text : List ℕ) → Blanks blanks → found s [] (blanks ++ text) ≡ found s [] text
  past_blanks [] text all = refl
  past_blanks (b ∷ bs) text all =
      let blank = All-head (λ x. is_blank x ≡ true) b bs all in
      found_out s [] b (bs ++ text) (blank_named b blank)
      ∙ ap (λ w. (w || is_mark s b) || found s [] (bs ++ text)) (empty s)
      ∙ ap (λ m. m || found s [] (bs ++ text)) (blank_mark s b blank)
      ∙ past_blanks bs text (All-tail (λ x. is_blank x ≡ true) b bs all)

  -- Blanks end a word; without blanks, the word continues in the text.
  pub through_blanks : (word blanks text : List ℕ) → Blanks blanks → is_sign s word ≡ false → (blanks ≡ [] → found s word text ≡ false) → found s [] text ≡ false → found s word (blanks ++ text) ≡ false
  through_blanks word [] text all none first on = first refl
  through_blanks word (b ∷ bs) text all none first on =
      let blank = All-head (λ x. is_blank x ≡ true) b bs all in
      out_from s word b (bs ++ text) (blank_named b blank) none (blank_mark s b blank) (past_blanks bs text (All-tail (λ x. is_blank x ≡ true) b bs all) ∙ on)

  pub from_token : (line : List ℕ) (token : Lexeme) (after : List ℕ) → BeginsToken line token after → found s [] line ≡ false → found s [] (token.text ++ after) ≡ false
  from_token line token after begins none =
      sym (past_blanks (gap line) (token.text ++ after) (blanks_are line)) ∙ sym (ap (found s []) (whole_line line token after begins ∙ append_assoc (gap line) token.text after)) ∙ none
