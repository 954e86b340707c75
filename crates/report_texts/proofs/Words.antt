-- The bytes of words that are definitions.
use Rattle.std.proofs.Common.{◌≡◌, ◌+◌, ◌==◌, ◌&&◌, ◌++◌, ℕ, suc, Bool, true, false, not, codes, List, [], ◌∷◌, Some, None, Result, Ok, Err, drop, find, if◌then◌else◌, map, take, refl, sym, ap, subst, ◌∙◌, arith}
use Rattle.std.specs.Borrow.{Bor}
use Rattle.std.specs.Char.{is_ascii_alphanumeric, is_ascii_digit, to_ascii_uppercase}
use Rattle.std.specs.List.{AllPass, flat_map, list_all, prefix_len}
use Rattle.std.specs.Str.{bytes_eq}
use Rattle.std.proofs.lemmas.Bool.{and_from, and_parts, false≢true, true≢false}
use Rattle.std.proofs.lemmas.Bool.Decides.{nat_tests}
use Rattle.std.proofs.lemmas.List.Elements.{All-head, All-tail}
use Rattle.std.proofs.lemmas.List.Folds.{list_all-append}
use Rattle.std.proofs.lemmas.List.Sums.{list_all-from_AllPass}
use Rattle.std.proofs.lemmas.Slice.Eq.{bytes_eq-Decides}
use Rattle.asm_line.specs.Classes.{apostrophe, begins_name, continues_name, is_control, is_quote}
use Rattle.asm_line.specs.Lines.{BeginsToken, Scans}
use Rattle.asm_line.specs.Scanned.{scanned}
use Rattle.asm_line.specs.Tokens.{HasNoControlByte, IsAf, IsName, IsNumber, IsString, IsToken, Lexeme, doubled, mark_byte}
use Rattle.asm_line.specs.declared.fault.ScanFault.{ScanFault}
use Rattle.asm_line.specs.declared.token.Kind.{Kind}
use Rattle.asm_line.specs.declared.token.Mark.{Mark}
use Rattle.asm_spell.specs.Spelling.{spelled}
use Rattle.report_texts.specs.Defines.{are_name_and_number, defines_name, first_bad, is_definition, is_definition_by}
use Rattle.report_texts.specs.Front.{define_line, defined_name, defined_value, have_word_bytes, is_word_byte}

-- A text may be in a word.
abbrev Plain : List ℕ → Type 0
Plain text = list_all is_word_byte text ≡ true

-- a byte of a class that has neither a line feed nor 1AH
in_class : (class : ℕ → Bool) → class 0x0A ≡ false → class 0x1A ≡ false → (byte : ℕ) → class byte ≡ true → is_word_byte byte ≡ true
in_class class no_feed no_end byte is =
    elim (byte == 0x0A) as (λ feed. (byte == 0x0A) ≡ feed → (not feed && not (byte == 0x1A)) ≡ true) [
      | true ↦ λ here. absurd (true≢false (sym is ∙ ap class (same byte 0x0A here) ∙ no_feed))
      | false ↦ λ here. elim (byte == 0x1A) as (λ end. (byte == 0x1A) ≡ end → not end ≡ true) [
        | true ↦ λ there. absurd (true≢false (sym is ∙ ap class (same byte 0x1A there) ∙ no_end))
        | false ↦ λ there. refl
      ] refl
    ] refl
  where
    same : (a b : ℕ) → (a == b) ≡ true → a ≡ b
    same a b e = grind (arith, nat_tests)

all_in_class : (class : ℕ → Bool) → class 0x0A ≡ false → class 0x1A ≡ false → (text : List ℕ) → list_all class text ≡ true → Plain text
all_in_class class no_feed no_end [] all = refl
all_in_class class no_feed no_end (b ∷ text) all =
    let both = and_parts (class b) (list_all class text) all in
    and_from _ _ (in_class class no_feed no_end b both.0) (all_in_class class no_feed no_end text both.1)

name_plain : (text : List ℕ) → IsName text → Plain text
name_plain [] is = absurd is
name_plain (b ∷ more) is = and_from _ _ (in_class begins_name refl refl b is.0) (all_in_class continues_name refl refl more (list_all-from_AllPass continues_name more is.1))

number_plain : (text : List ℕ) → IsNumber text → Plain text
number_plain [] is = absurd is
number_plain (b ∷ more) is = and_from _ _ (in_class is_ascii_digit refl refl b is.0) (all_in_class is_ascii_alphanumeric refl refl more (list_all-from_AllPass is_ascii_alphanumeric more is.1))

-- a letter that is this one in upper case
letter_plain : (letter byte : ℕ) → (to_ascii_uppercase 0x0A == letter) ≡ false → (to_ascii_uppercase 0x1A == letter) ≡ false → to_ascii_uppercase byte ≡ letter → is_word_byte byte ≡ true
letter_plain letter byte no_feed no_end is = in_class (λ b. to_ascii_uppercase b == letter) no_feed no_end byte (grind (arith, nat_tests, is))

af_plain : (name : List ℕ) → IsAf name → Plain name
af_plain [] is = cc
af_plain (a ∷ []) is = cc
af_plain (a ∷ f ∷ []) is = and_from _ _ (letter_plain 0x41 a refl refl (cc)) (and_from _ _ (letter_plain 0x46 f refl refl (cc)) refl)
af_plain (a ∷ f ∷ c ∷ more) is = cc

doubled_plain : (quote : ℕ) → is_word_byte quote ≡ true → (content : List ℕ) → HasNoControlByte content → Plain (doubled quote content)
doubled_plain quote q [] all = refl
doubled_plain quote q (c ∷ content) all =
    let not_control : is_control c ≡ false = All-head (λ c. is_control c ≡ false) c content all in
    let one = in_class (λ b. not (is_control b)) refl refl c (ap not not_control) in
    let more = doubled_plain quote q content (All-tail (λ c. is_control c ≡ false) c content all) in
    elim (c == quote) as (λ b. Plain ((if b then quote ∷ quote ∷ [] else c ∷ []) ++ doubled quote content)) [
      | true ↦ and_from _ _ q (and_from _ _ q more)
      | false ↦ and_from _ _ one more
    ]

string_plain : (text after : List ℕ) → IsString text after → Plain text
string_plain text after is =
    let q = in_class is_quote refl refl is.quote is.quoted in
    subst Plain (sym is.text_is) (and_from _ _ q (list_all-append is_word_byte (doubled is.quote is.content) (is.quote ∷ []) ∙ and_from _ _ (doubled_plain is.quote q is.content is.plain) (and_from _ _ q refl)))

mark_plain : (m : Mark) → Plain (mark_byte m ∷ [])
mark_plain Mark.Comma = refl
mark_plain Mark.Open = refl
mark_plain Mark.Close = refl
mark_plain Mark.Colon = refl
mark_plain Mark.Plus = refl
mark_plain Mark.Minus = refl
mark_plain Mark.Star = refl
mark_plain Mark.Slash = refl
mark_plain Mark.Dollar = refl

token_plain : (kind : Kind) (text after : List ℕ) → IsToken kind text after → Plain text
token_plain Kind.Name text after is = name_plain text is.0
token_plain Kind.OtherAf text after is = subst Plain (sym is.2) (list_all-append is_word_byte is.0 (apostrophe ∷ []) ∙ and_from _ _ (af_plain is.0 is.1) refl)
token_plain (Kind.Number n) text after is = number_plain text is.0
token_plain Kind.Quoted text after is = string_plain text after is
token_plain (Kind.Mark m) text after is = subst Plain (sym is) (mark_plain m)

-- a word is its name, and then `=` and its value
word_plain : (word : List ℕ) → Plain (defined_name word) → Plain (defined_value word) → Plain word
word_plain [] name value = refl
word_plain (b ∷ word) name value =
    elim (not (b == 0x3D)) as (λ other. not (b == 0x3D) ≡ other → Plain (b ∷ word)) [
      | true ↦ λ other.
          let n = prefix_len (λ byte. not (byte == 0x3D)) word in
          let one_more : prefix_len (λ byte. not (byte == 0x3D)) (b ∷ word) ≡ 1 + n = rw other refl in
          let long : prefix_len (λ byte. not (byte == 0x3D)) (b ∷ word) ≡ suc n = omega (arith, one_more) in
          let past : prefix_len (λ byte. not (byte == 0x3D)) (b ∷ word) + 1 ≡ suc (n + 1) = omega (arith, one_more) in
          let parts = and_parts (is_word_byte b) _ (subst (λ k. Plain (take k (b ∷ word))) long name) in
          and_from _ _ parts.0 (word_plain word parts.1 (subst (λ k. Plain (drop k (b ∷ word))) past value))
      | false ↦ λ same.
          let none : prefix_len (λ byte. not (byte == 0x3D)) (b ∷ word) ≡ 0 = rw same refl in
          let past : prefix_len (λ byte. not (byte == 0x3D)) (b ∷ word) + 1 ≡ 1 = omega (arith, none) in
          and_from _ _ (in_class (λ c. c == 0x3D) refl refl b (equals b same)) (subst (λ k. Plain (drop k (b ∷ word))) past value)
    ] refl
  where
    equals : (c : ℕ) → not (c == 0x3D) ≡ false → (c == 0x3D) ≡ true
    equals c e = elim (c == 0x3D) as (λ t. not t ≡ false → t ≡ true) [ true ↦ λ _. refl | false ↦ λ no. absurd (true≢false no) ] e

same_text : (text part : List ℕ) → bytes_eq text part ≡ true → Plain text → Plain part
same_text text part same is = subst Plain ((bytes_eq-Decides text part).0 same) is

plain_by_tokens : (word line : List ℕ) (tokens : List Lexeme) → are_name_and_number (defined_name word) (defined_value word) tokens ≡ true → Scans line (Ok tokens) → Plain word
plain_by_tokens word line [] is cut = absurd (false≢true is)
plain_by_tokens word line (first ∷ []) is cut = absurd (false≢true is)
plain_by_tokens word line (first ∷ equ ∷ []) is cut = absurd (false≢true is)
plain_by_tokens word line (first ∷ equ ∷ last ∷ []) is cut =
    let name = and_parts (bytes_eq first.text (defined_name word)) _ is in
    let value = and_parts _ (bytes_eq last.text (defined_value word)) name.1 in
    let begins = cut.1.begins in
    word_plain word (same_text first.text _ name.0 (token_plain first.kind first.text _ begins.1.token_is)) (same_text last.text _ value.1 (token_plain last.kind last.text _ begins.2.2.1.token_is))
plain_by_tokens word line (first ∷ equ ∷ last ∷ other ∷ more) is cut = absurd (false≢true is)

plain_by_answer : (word line : List ℕ) (answer : Result (List Lexeme) ScanFault) → is_definition_by word answer ≡ true → Scans line answer → Plain word
plain_by_answer word line (Ok tokens) is cut = plain_by_tokens word line tokens (and_parts _ (defines_name (spelled tokens)) is).0 cut
plain_by_answer word line (Err why) is cut = absurd (false≢true is)

module _ (scans : (line : List ℕ) → Scans line (scanned line)) where
  definition_plain : (word : List ℕ) → is_definition word ≡ true → Plain word
  definition_plain word is = plain_by_answer word (define_line word) (scanned (define_line word)) is (scans (define_line word))

  pub all_word_bytes : (words : List (Bor (List ℕ))) → first_bad (map (λ word. word.now) words) ≡ None → have_word_bytes words ≡ true
  all_word_bytes [] none = refl
  all_word_bytes (w ∷ words) none =
      elim (is_definition w.now) as (λ is. is_definition w.now ≡ is → have_word_bytes (w ∷ words) ≡ true) [
        | true ↦ λ is. and_from _ _ (definition_plain w.now is) (all_word_bytes words (found true is))
        | false ↦ λ is. (let bad : Some w.now ≡ None = found false is in cc)
      ] refl
    where
      found : (d : Bool) → is_definition w.now ≡ d → (if not d then Some w.now else first_bad (map (λ word. word.now) words)) ≡ None
      found d is = subst (λ b. (if not b then Some w.now else first_bad (map (λ word. word.now) words)) ≡ None) is none
