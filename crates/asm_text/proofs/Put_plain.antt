-- A line without a sign has none either once plain texts replace its names.
use Rattle.std.proofs.Common.{◌≡◌, ◌⊎◌, inl, inr, ◌<◌, ◌+◌, ◌-◌, ◌^◌, ◌==◌, ◌∙◌, ◌||◌, ◌&&◌, not, sym, ap, refl, subst, ℕ, zero, suc, Bool, true, false, if◌then◌else◌, List, [], ◌∷◌, ◌++◌, Option, Some, None, IfSome, Result, Ok, Err, cond, codes, decimal, arith, drop, get_or, append_assoc, length}
use Rattle.std.specs.Char.{is_ascii_alphabetic, is_ascii_digit}
use Rattle.std.specs.List.{Contains, filter, list_any}
use Rattle.std.specs.Map.{lookup}
use Rattle.std.specs.Option.{unwrap_or}
use Rattle.std.specs.Str.{bytes_eq}
use Rattle.std.specs.Str.Parse.{AllDigits}
use Rattle.std.proofs.lemmas.Fmt.{decimal_is_IsNumeral}
use Rattle.std.proofs.lemmas.Str.Parse.{digit_from_value}
use Rattle.std.proofs.lemmas.Bool.{cases_Bool, cond-false, cond-true, false≢true, not_from_false, or_from, or_left, or_parts, or_right}
use Rattle.std.proofs.lemmas.List.Elements.{Contains-append_right}
use Rattle.std.proofs.lemmas.List.Folds.{list_any-append}
use Rattle.asm_line.specs.declared.fault.ScanFault.{ScanFault}
use Rattle.asm_line.specs.declared.token.Kind.{Kind}
use Rattle.asm_line.specs.Classes.{begins_name, continues_name}
use Rattle.asm_line.specs.Lines.{BeginsTokens, Scans}
use Rattle.asm_line.specs.Scanned.{scanned}
use Rattle.asm_line.specs.Tokens.{BeginsWithout, IsName, IsNumber, IsToken, Lexeme}
use Rattle.asm_line.proofs.Cuts.{scans}
use Rattle.common.specs.Words.{upper}
use Rattle.asm_line.specs.Single.{is_name}
use Rattle.asm_line.proofs.Replaced.Fronts.{whole_line}
use Rattle.asm_line.proofs.Replaced.Lines.{after_token}
use Rattle.asm_line.specs.Replacing.Pieces.{gap, after_first_token}
use Rattle.asm_line.specs.Replacing.Replaced.{SaySame, ReplacementTable, arguments_of, local_name, local_names, replaced_tokens, swapped}
use Rattle.asm_text.specs.Calls.{replaced_by, replaced_line}
use Rattle.asm_text.specs.Lines.{tokens_in}
use Rattle.asm_text.specs.declared.signs.Sign.{Sign}
use Rattle.asm_text.specs.Signs.{has_sign, is_sign}
use Rattle.asm_text.specs.Plain.{ArePlain, are_plain, is_plain}
use Rattle.asm_text.proofs.Passed.{Ends, all_named, behind_token, blanks_are, digit_no_letter, ended_text, from_token, mark_ends, name_none, number_named, quoted_ends, through_blanks}
use Rattle.asm_text.proofs.Signless.{is_name_token}
use Rattle.asm_text.proofs.Words.{before, found, found_end, found_in, free_front, free_none, is_mark, no_letter, out_from, over, read, run_on}

both : (a b : Bool) → (a && b) ≡ true → (a ≡ true) × (b ≡ true)
both true b e = (refl, e)
both false b e = absurd (false≢true e)

isnt : (b : Bool) → not b ≡ true → b ≡ false
isnt false e = refl
isnt true e = absurd (false≢true e)

-- Text that begins with a byte that continues no name does not begin with a name, nor with a number.
name_first : (text after : List ℕ) → IsName text → BeginsWithout continues_name (text ++ after) → ⊥
name_first [] after never other = never
name_first (b ∷ text) after name other = false≢true (sym other ∙ or_left (begins_name b) (is_ascii_digit b) name.0)

number_first : (text after : List ℕ) → IsNumber text → BeginsWithout continues_name (text ++ after) → ⊥
number_first [] after never other = never
number_first (b ∷ text) after number other = false≢true (sym other ∙ or_right (begins_name b) (is_ascii_digit b) number.0)

front_without : (text after : List ℕ) → BeginsWithout continues_name (text ++ after) → BeginsWithout continues_name text
front_without [] after other = tt
front_without (b ∷ text) after other = other

-- A word read before a line makes no sign with the front of the line, nor with a plain text in the place of a name there. Either it
-- begins with no letter, as a number does, or it ends where the line begins and is no sign.
abbrev Apart : Sign → List ℕ → List ℕ → Type 0
Apart s word line = BeginsWithout is_ascii_alphabetic word ⊎ ((is_sign s word ≡ false) × BeginsWithout continues_name line)

module _ (s : Sign) where
  apart_none : (word line : List ℕ) → Apart s word line → is_sign s word ≡ false
  apart_none word line (inl free) = free_none s word free
  apart_none word line (inr ends) = ends.0

  front_apart : (word line : List ℕ) → Apart s word line → found s [] line ≡ false → found s word line ≡ false
  front_apart word line (inl free) none = free_front s word line free none
  front_apart word line (inr ends) none = before s word line ends.0 ends.1 none

  fewer : (word text after : List ℕ) → Apart s word (text ++ after) → Apart s word text
  fewer word text after (inl free) = inl free
  fewer word text after (inr ends) = inr (ends.0, front_without text after ends.1)

  -- A token that is not replaced, when what follows it changes.

  name_on : (word text after : List ℕ) → IsToken Kind.Name text after → Apart s word (text ++ after) → found s [] (text ++ after) ≡ false → is_sign s (word ++ text) ≡ false
  name_on word text after is (inr ends) none = absurd (name_first text after is.0 ends.1)
  name_on [] text after is (inl free) none = name_none s text after is none
  name_on (b ∷ word) text after is (inl free) none = no_letter s b (word ++ text) free

  number_on : (word text after : List ℕ) → IsNumber text → Apart s word (text ++ after) → BeginsWithout is_ascii_alphabetic (word ++ text)
  number_on word text after number (inr ends) = absurd (number_first text after number ends.1)
  number_on [] [] after number (inl free) = tt
  number_on [] (b ∷ text) after number (inl free) = digit_no_letter b number.0
  number_on (b ∷ word) text after number (inl free) = free

  -- a text that ends with a byte that continues no name
  ended_over : (word text after ys : List ℕ) → Ends text → Apart s word (text ++ after) → found s [] (text ++ after) ≡ false → found s [] ys ≡ false → found s word (text ++ ys) ≡ false
  ended_over word text after ys ends apart none on =
      let alone = or_parts (found s [] text) (found s [] after) (sym (ended_text s [] text after ends) ∙ none) in
      ended_text s word text ys ends ∙ or_from (found s word text) (found s [] ys) (front_apart word text (fewer word text after apart) alone.0) on

  abbrev On : List ℕ → List ℕ → Type 0
  On after ys = (word : List ℕ) → Apart s word after → found s word ys ≡ false

  token_over : (k : Kind) (word text after ys : List ℕ) → IsToken k text after → Apart s word (text ++ after) → found s [] (text ++ after) ≡ false → On after ys → found s word (text ++ ys) ≡ false
  token_over Kind.Name word text after ys is apart none on = run_on s word text ys (all_named text is.0) ∙ on (word ++ text) (inr (name_on word text after is apart none, is.1))
  token_over (Kind.Number n) word text after ys is apart none on = run_on s word text ys (number_named text is.0) ∙ on (word ++ text) (inl (number_on word text after is.0 apart))
  token_over Kind.OtherAf word text after ys is apart none on = ended_over word text after ys (is.0, 0x27, is.2, refl) apart none (on [] (inl tt))
  token_over Kind.Quoted word text after ys is apart none on = ended_over word text after ys (quoted_ends text after is) apart none (on [] (inl tt))
  token_over (Kind.Mark m) word text after ys is apart none on = ended_over word text after ys (mark_ends m text is) apart none (on [] (inl tt))

  -- A name that a plain text replaces.

  -- A token stays as it is, or it is a name and a plain text replaces it.
  swapped_plain : (t : ReplacementTable) → ArePlain s t → (token : Lexeme) → (swapped t token ≡ token.text) ⊎ ((is_name token ≡ true) × (is_plain s (swapped t token) ≡ true))
  swapped_plain t plain token = by (is_name token) (lookup (bytes_eq (upper token.text)) t) (plain (upper token.text)) where
    by : (named : Bool) (found : Option (List ℕ)) → IfSome found (λ text. is_plain s text ≡ true)
        → ((if named then unwrap_or found token.text else token.text) ≡ token.text) ⊎ ((named ≡ true) × (is_plain s (if named then unwrap_or found token.text else token.text) ≡ true))
    by false found p = inl refl
    by true None p = inl refl
    by true (Some text) p = inr (refl, p)

  plain_over : (word name after text ys : List ℕ) → IsToken Kind.Name name after → Apart s word (name ++ after) → is_plain s text ≡ true → On after ys → found s word (text ++ ys) ≡ false
  plain_over word name after text ys is (inr ends) plain on = absurd (name_first name after is.0 ends.1)
  plain_over word name after text ys is (inl free) plain on =
      over s word text ys (free_front s word text free (sym (read s text) ∙ isnt (has_sign s text) plain)) (λ w none. on w (inr (none, is.1)))

-- A line in which plain texts replace names has a sign only if it had one before.

module _ (s : Sign) (t : ReplacementTable) (plain : ArePlain s t) where
  token_apart : (token : Lexeme) (after ys word : List ℕ) → IsToken token.kind token.text after → found s [] (token.text ++ after) ≡ false → Apart s word (token.text ++ after) → On s after ys → found s word (swapped t token ++ ys) ≡ false
  token_apart token after ys word is none apart on =
      elim (swapped_plain s t plain token) [
        | inl left ↦ ap (λ put. found s word (put ++ ys)) left ∙ token_over s token.kind word token.text after ys is apart none on
        | inr text ↦ plain_over s word token.text after (swapped t token) ys (is_name_token token.kind token.text after text.0 is) apart text.1 on
      ]

  replaced_apart : (line : List ℕ) (tokens : List Lexeme) (rest : List ℕ) → BeginsTokens line tokens rest → found s [] line ≡ false → (word : List ℕ) → Apart s word line → found s word (replaced_tokens t line tokens) ≡ false
  replaced_apart line [] rest begins none word apart = front_apart s word line apart none
  replaced_apart line (token ∷ tokens) rest begins none word apart =
      let after = begins.0 in
      let now = replaced_tokens t (after_first_token line token) tokens in
      let whole : line ≡ gap line ++ (token.text ++ after) = whole_line line token after begins.1 ∙ append_assoc (gap line) token.text after in
      let here = from_token s line token after begins.1 none in
      let later = behind_token s token.kind token.text after begins.1.token_is here in
      let on : On s after now = λ w beside. ap (λ l. found s w (replaced_tokens t l tokens)) (after_token line token after begins.1) ∙ replaced_apart after tokens rest begins.2 later w beside in
      let is = token_apart token after now in
      let first : gap line ≡ [] → found s word (swapped t token ++ now) ≡ false = λ none_before. is word begins.1.token_is here (subst (Apart s word) (whole ∙ ap (λ g. g ++ (token.text ++ after)) none_before) apart) on in
      ap (found s word) (append_assoc (gap line) (swapped t token) now)
      ∙ through_blanks s word (gap line) (swapped t token ++ now) (blanks_are s line) (apart_none s word line apart) first (is [] begins.1.token_is here (inl tt) on)

  pub line_apart : (line : List ℕ) (answer : Result (List Lexeme) ScanFault) → Scans line answer → has_sign s line ≡ false → has_sign s (replaced_by t line (tokens_in answer)) ≡ false
  line_apart line (Err fault) cut none = none
  line_apart line (Ok tokens) cut none = read s (replaced_tokens t line tokens) ∙ replaced_apart line tokens cut.1.rest cut.1.begins (sym (read s line) ∙ none) [] (inl tt)

  pub stays_plain : (line : List ℕ) → has_sign s line ≡ false → has_sign s (replaced_line t line) ≡ false
  stays_plain line none = line_apart line (scanned line) (scans line) none

-- Elements that a filter leaves out do not satisfy its test.

with_first : (p : ℕ → Bool) (x : ℕ) (xs : List ℕ) (k : ℕ) → Contains (filter p xs) k → Contains (filter p (x ∷ xs)) k
with_first p x xs k there =
    elim (p x) as (λ b. Contains (cond b (x ∷ filter p xs) (filter p xs)) k) [
      | true ↦ Contains-append_right (x ∷ []) (filter p xs) k there
      | false ↦ there
    ]

left_at : (p : ℕ → Bool) (xs : List ℕ) (k i : ℕ) → i < length xs → get_or xs i k ≡ k → Contains (filter p xs) k ⊎ (p k ≡ false)
left_at p [] k i h e = absurd (omega (arith, h))
left_at p (x ∷ xs) k zero h e =
    elim (cases_Bool (p k)) [
      | inl passes ↦ inl (subst (λ ks. Contains ks k) (sym (cond-true (p x) (x ∷ filter p xs) (filter p xs) (ap p e ∙ passes))) (0, omega arith, e))
      | inr fails ↦ inr fails
    ]
left_at p (x ∷ xs) k (suc i) h e =
    elim (left_at p xs k i (omega (arith, h)) e) [
      | inl there ↦ inl (with_first p x xs k there)
      | inr fails ↦ inr fails
    ]

pub left_out : (p : ℕ → Bool) (places : List ℕ) (k : ℕ) → Contains places k → Contains (filter p places) k ⊎ (p k ≡ false)
left_out p places k there = left_at p places k there.0 there.1 there.2

-- The replacements of a call are plain if its arguments are.

-- whether a byte is a letter or a colon: each sign contains one of these
abbrev is_signer : ℕ → Bool
is_signer b = is_ascii_alphabetic b || (b == 0x3A)

other_mark : (s : Sign) (b : ℕ) → (b == 0x3A) ≡ false → is_mark s b ≡ false
other_mark Sign.Word b other = refl
other_mark Sign.Second b other = other

longer : (word : List ℕ) (b : ℕ) → BeginsWithout is_ascii_alphabetic word → is_ascii_alphabetic b ≡ false → BeginsWithout is_ascii_alphabetic (word ++ b ∷ [])
longer [] b free other = other
longer (c ∷ word) b free other = free

none_of : (s : Sign) (word xs : List ℕ) → BeginsWithout is_ascii_alphabetic word → list_any is_signer xs ≡ false → found s word xs ≡ false
none_of s word [] free none = found_end s word ∙ free_none s word free
none_of s word (x ∷ xs) free none =
    let two = or_parts (is_signer x) (list_any is_signer xs) none in
    let parts = or_parts (is_ascii_alphabetic x) (x == 0x3A) two.0 in
    elim (cases_Bool (continues_name x)) [
      | inl named ↦ found_in s word x xs named ∙ none_of s (word ++ x ∷ []) xs (longer word x free parts.0) two.1
      | inr other ↦ out_from s word x xs other (free_none s word free) (other_mark s x parts.1) (none_of s [] xs tt two.1)
    ]

nothing : (n : ℕ) → list_any is_signer (drop n []) ≡ false
nothing zero = refl
nothing (suc n) = refl

zeros : (n : ℕ) → list_any is_signer (drop n (codes "00000")) ≡ false
zeros zero = refl
zeros (suc zero) = refl
zeros (suc (suc zero)) = refl
zeros (suc (suc (suc zero))) = refl
zeros (suc (suc (suc (suc zero)))) = refl
zeros (suc (suc (suc (suc (suc n))))) = nothing n

digit : (n : ℕ) → n < 10 → is_signer (48 + n) ≡ false
digit zero h = refl
digit (suc zero) h = refl
digit (suc (suc zero)) h = refl
digit (suc (suc (suc zero))) h = refl
digit (suc (suc (suc (suc zero)))) h = refl
digit (suc (suc (suc (suc (suc zero))))) h = refl
digit (suc (suc (suc (suc (suc (suc zero)))))) h = refl
digit (suc (suc (suc (suc (suc (suc (suc zero))))))) h = refl
digit (suc (suc (suc (suc (suc (suc (suc (suc zero)))))))) h = refl
digit (suc (suc (suc (suc (suc (suc (suc (suc (suc zero))))))))) h = refl
digit (suc (suc (suc (suc (suc (suc (suc (suc (suc (suc n)))))))))) h = absurd (omega (arith, h))

digits : (ds : List ℕ) → AllDigits 10 ds → list_any is_signer ds ≡ false
digits [] all = refl
digits (c ∷ cs) all =
    let range = digit_from_value c all.0 in
    let is : 48 + (c - 48) ≡ c = omega (arith, range) in
    or_from (is_signer c) (list_any is_signer cs) (sym (ap is_signer is) ∙ digit (c - 48) (omega (arith, range))) (digits cs all.1)

none_in_local : (s : Sign) (n : ℕ) → n < 2 ^ 64 → has_sign s (local_name n) ≡ false
none_in_local s n fits =
    let front = codes "??" ++ drop (length (decimal n)) (codes "00000") in
    read s (local_name n) ∙ none_of s [] (local_name n) tt (list_any-append is_signer front (decimal n) ∙ or_from (list_any is_signer front) (list_any is_signer (decimal n)) (zeros (length (decimal n))) (digits (decimal n) (decimal_is_IsNumeral n fits).0.1))

plain_locals : (s : Sign) (counter : ℕ) (locals : List (List ℕ)) → counter + length locals < 2 ^ 64 → ArePlain s (local_names counter locals)
plain_locals s counter [] fits name = tt
plain_locals s counter (l ∷ ls) fits name =
    elim (bytes_eq name l) as (λ b. IfSome (cond b (Some (local_name counter)) (lookup (bytes_eq name) (local_names (counter + 1) ls))) (λ text. is_plain s text ≡ true)) [
      | true ↦ not_from_false (has_sign s (local_name counter)) (none_in_local s counter (omega (arith, fits)))
      | false ↦ plain_locals s (counter + 1) ls (omega (arith, fits)) name
    ]

none_empty : (s : Sign) → is_plain s [] ≡ true
none_empty Sign.Word = refl
none_empty Sign.Second = refl

none_given : (s : Sign) (parameters : List (List ℕ)) → are_plain s parameters [] ≡ true
none_given s [] = refl
none_given s (p ∷ ps) = refl

pub plain_call : (s : Sign) (parameters some : List (List ℕ)) (counter : ℕ) (locals : List (List ℕ)) → counter + length locals < 2 ^ 64 → are_plain s parameters some ≡ true
    → ArePlain s (arguments_of parameters some ++ local_names counter locals)
plain_call s [] some counter locals fits are name = plain_locals s counter locals fits name
plain_call s (p ∷ ps) [] counter locals fits are name =
    elim (bytes_eq name p) as (λ b. IfSome (cond b (Some []) (lookup (bytes_eq name) (arguments_of ps [] ++ local_names counter locals))) (λ text. is_plain s text ≡ true)) [
      | true ↦ none_empty s
      | false ↦ plain_call s ps [] counter locals fits (none_given s ps) name
    ]
plain_call s (p ∷ ps) (a ∷ more) counter locals fits are name =
    let parts = both (is_plain s a) (are_plain s ps more) are in
    elim (cases_Bool (bytes_eq name p)) [
      | inl same ↦ subst (λ o. IfSome o (λ text. is_plain s text ≡ true)) (sym (cond-true (bytes_eq name p) (Some a) _ same)) parts.0
      | inr other ↦ subst (λ o. IfSome o (λ text. is_plain s text ≡ true)) (sym (cond-false (bytes_eq name p) (Some a) _ other)) (plain_call s ps more counter locals fits parts.1 name)
    ]

pub plain_alike : (s : Sign) (t u : ReplacementTable) → SaySame t u → ArePlain s u → ArePlain s t
plain_alike s t u same plain name = subst (λ o. IfSome o (λ text. is_plain s text ≡ true)) (sym (same name)) (plain name)
