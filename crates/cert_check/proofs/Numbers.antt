-- Numbers as the standard library reads and writes them.
use Rattle.std.proofs.Common.{◌≡◌, ◌≢◌, ℕ, suc, zero, ◌-◌, ◌^◌, ◌<◌, ◌≤◌, List, [], ◌∷◌, ◌++◌, Bool, true, false, ◌==◌, cond, Result, Ok, Err, Option, Some, None, refl, sym, subst, ◌∙◌, ap, length, arith, decimal, slice_index, MatchResult, IsUtf8, Bor, inl, inr, nat_le}
use Rattle.std.specs.List.{list_all}
use Rattle.std.specs.Char.{is_ascii_digit, digit_value}
use Rattle.std.specs.Result.{result_ok, OkIff}
use Rattle.std.specs.Str.Parse.{AllDigits, IsNumeral, digits_value, without_leading_plus, ParsesUnsigned}
use Rattle.std.proofs.lemmas.Fmt.{decimal_is_IsNumeral, decimal-digits_value, decimal_digit, first_decimal, IsAscii-from_digits}
use Rattle.std.proofs.lemmas.Str.{IsUtf8-from_ascii}
use Rattle.std.specs.Int.{IsInRange}
use Rattle.std.proofs.lemmas.Str.{digit_value_digit}
use Rattle.std.proofs.lemmas.Str.Parse.{numerals_by_value, tells_digits, digit_from_value, without_leading_plus_none}
use Rattle.std.proofs.lemmas.Bool.{and_parts, and_from, cases_lt, eq-eqb, eqb-true, eqb-false, leb-true, le-leb, false≢true}
use Rattle.std.specs.Option.{unwrap_or}
use Rattle.cert_check.proofs.CertTexts.{same_rest}
use Rattle.cert_check.specs.Texts.{IsDecimalNumber, IsJumpLine}
use Rattle.cert_check.specs.Private.Reading.{is_number, IsNumbered, IsTarget}

digit_range : (d : ℕ) → is_ascii_digit d ≡ true → IsInRange 48 57 d
digit_range d h = let parts = and_parts (nat_le 48 d) (nat_le d 57) h in (leb-true 48 d parts.0, leb-true d 57 parts.1)

range_digit : (d : ℕ) → IsInRange 48 57 d → is_ascii_digit d ≡ true
range_digit d k = and_from (nat_le 48 d) (nat_le d 57) (le-leb 48 d k.0) (le-leb d 57 k.1)

digit_below : (d : ℕ) → IsInRange 48 57 d → digit_value d < 10
digit_below d k = let high = k.1 in omega (arith, digit_value_digit d k)

digits_from : (ds : List ℕ) → list_all is_ascii_digit ds ≡ true → AllDigits 10 ds
digits_from [] all = tt
digits_from (d ∷ ds) all =
    let parts = and_parts (is_ascii_digit d) (list_all is_ascii_digit ds) all in
    (digit_below d (digit_range d parts.0), digits_from ds parts.1)

from_digits : (ds : List ℕ) → AllDigits 10 ds → list_all is_ascii_digit ds ≡ true
from_digits [] each = refl
from_digits (d ∷ ds) each = and_from (is_ascii_digit d) (list_all is_ascii_digit ds) (range_digit d (digit_from_value d each.0)) (from_digits ds each.1)

one_digit : (ds : List ℕ) → slice_index ds 0 ≡ 0x30 → length ds ≡ 1 → AllDigits 10 ds
one_digit [] e one = tt
one_digit (d ∷ []) e one = (digit_below d (omega arith, omega arith), tt)
one_digit (d ∷ c ∷ ds) e one = absurd (omega arith)

pub number_from : (ds : List ℕ) → is_number ds ≡ true → IsDecimalNumber ds
number_from ds h = by_tests (length ds == 0) (slice_index ds 0 == 0x30) refl refl h
  where
    by_tests : (none nought : Bool) → (length ds == 0) ≡ none → (slice_index ds 0 == 0x30) ≡ nought → cond none false (cond nought (length ds == 1) (list_all is_ascii_digit ds)) ≡ true → IsDecimalNumber ds
    by_tests true nought a b h = absurd (false≢true h)
    by_tests false true a b h =
        let one = eqb-true (length ds) 1 h in
        record { numeral = (omega arith, one_digit ds (eqb-true (slice_index ds 0) 0x30 b) one); no_zero = λ _. one }
    by_tests false false a b h =
        let some = eqb-false (length ds) 0 a in
        record { numeral = (omega arith, digits_from ds h); no_zero = λ e. absurd (eqb-false (slice_index ds 0) 0x30 b e) }

pub from_number : (ds : List ℕ) → IsDecimalNumber ds → is_number ds ≡ true
from_number ds n = by_tests (length ds == 0) (slice_index ds 0 == 0x30) refl refl
  where
    by_tests : (none nought : Bool) → (length ds == 0) ≡ none → (slice_index ds 0 == 0x30) ≡ nought → cond none false (cond nought (length ds == 1) (list_all is_ascii_digit ds)) ≡ true
    by_tests true nought a b = let some = n.numeral.0 in let e = eqb-true (length ds) 0 a in absurd (omega arith)
    by_tests false true a b = eq-eqb (length ds) 1 (n.no_zero (eqb-true (slice_index ds 0) 0x30 b))
    by_tests false false a b = from_digits ds n.numeral.1

-- what the standard library writes is a number
pub decimal_number : (n : ℕ) → n < 2 ^ 64 → IsDecimalNumber (decimal n)
decimal_number n lt = record { numeral = (decimal_is_IsNumeral n lt).0; no_zero = zero_alone n lt }
  where
    zero_alone : (n : ℕ) → n < 2 ^ 64 → slice_index (decimal n) 0 ≡ 0x30 → length (decimal n) ≡ 1
    zero_alone zero lt e = ap length (decimal_digit 0 (omega arith))
    zero_alone (suc n) lt e = let first = first_decimal (suc n) (omega arith) lt in absurd (omega arith)

-- digits are UTF-8
pub digits_text : {T E : Type 0} (ds : List ℕ) (P : T → Type 0) (Q : E → Type 0) (r : Result T E) → is_number ds ≡ true → None ≡ result_ok r → MatchResult r P (λ e. ¬ (IsUtf8 ds) × Q e) → ⊥
digits_text ds P Q (Ok x) h none cases = cc
digits_text ds P Q (Err e) h none cases = cases.0 (IsUtf8-from_ascii ds (IsAscii-from_digits ds (number_from ds h).numeral.1))

-- the text that `from_utf8` gave
pub same_text : {E : Type 0} (r : Result (Bor (List ℕ)) E) (bytes : List ℕ) (text : Bor (List ℕ)) (Q : E → Type 0) → Some text ≡ result_ok r → MatchResult r (λ s. (s.now ≡ bytes) × IsUtf8 bytes) Q → text.now ≡ bytes
same_text (Ok s) bytes text Q some cases = let e : text ≡ s = cc in ap (λ (x : Bor (List ℕ)). x.now) e ∙ cases.0
same_text (Err e) bytes text Q some cases = absurd (cc)

no_plus : (ds : List ℕ) → IsDecimalNumber ds → without_leading_plus ds ≡ ds
no_plus [] n = let some = n.numeral.0 in absurd (omega arith)
no_plus (d ∷ ds) n = without_leading_plus_none (d ∷ ds) (λ e. (let k = digit_from_value d n.numeral.1.0 in absurd (omega arith)))

read_value : {E : Type 0} (ds : List ℕ) (r : Result ℕ E) → IsDecimalNumber ds → OkIff r (IsNumeral 10 ds × (digits_value 10 ds < 2 ^ 32)) (digits_value 10 ds) → IsNumbered [] ds (result_ok r)
read_value ds (Ok n) number p =
    let lt = p.0.1 in
    let e = p.1 in
    (omega arith, sym (ap decimal p.1 ∙ decimal-digits_value (numerals_by_value (AllDigits 10) tells_digits) ds number.numeral.1 number.numeral.0 number.no_zero (omega arith)))
read_value ds (Err e) number p = λ n lt same. (
    let back = decimal_is_IsNumeral n (omega arith) in
    let value : digits_value 10 ds ≡ n = ap (digits_value 10) same ∙ back.1 in
    p (number.numeral, omega arith))

-- the number that the standard library reads from the digits
pub parsed : {E : Type 0} (ds text : List ℕ) (r : Result ℕ E) → is_number ds ≡ true → text ≡ ds → ParsesUnsigned 32 10 text r → IsNumbered [] ds (result_ok r)
parsed ds text r h same p =
    let number = number_from ds h in
    read_value ds r number (subst (λ l. OkIff r (IsNumeral 10 l × (digits_value 10 l < 2 ^ 32)) (digits_value 10 l)) (ap without_leading_plus same ∙ no_plus ds number) p)

-- a number after a word
pub behind_word : (word line digits : List ℕ) (r : Option ℕ) → line ≡ word ++ digits → IsNumbered [] digits r → IsNumbered word line r
behind_word word line digits (Some n) e p = (p.0, e ∙ ap (λ ds. word ++ ds) p.1)
behind_word word line digits None e p = λ n lt same. p n lt (same_rest word digits (decimal n) (sym e ∙ same))

pub no_number : (word line digits : List ℕ) → line ≡ word ++ digits → is_number digits ≡ false → (n : ℕ) → n < 2 ^ 32 → line ≢ word ++ decimal n
no_number word line digits e none n lt same =
    false≢true (sym none ∙ ap is_number (same_rest word digits (decimal n) (sym e ∙ same)) ∙ from_number (decimal n) (decimal_number n (omega arith)))

pub no_target : (word line digits : List ℕ) → line ≡ word ++ digits → is_number digits ≡ false → (target : ℕ) → ¬ IsJumpLine word line target
no_target word line digits e none target j =
    false≢true (sym none ∙ ap is_number (same_rest word digits j.digits (sym e ∙ j.line_is)) ∙ from_number j.digits j.is_number)

pub no_word : (word line : List ℕ) → ((rest : List ℕ) → line ≢ word ++ rest) → (target : ℕ) → ¬ IsJumpLine word line target
no_word word line none target j = none j.digits j.line_is

-- a target as it is read
pub capped : (word line digits : List ℕ) (r : Option ℕ) → line ≡ word ++ digits → is_number digits ≡ true → IsNumbered [] digits r → IsTarget word line (Some (unwrap_or r (2 ^ 32 - 1)))
capped word line digits (Some n) e h p =
    let number = number_from digits h in
    let value : n ≡ digits_value 10 digits = sym (ap (digits_value 10) p.1 ∙ (decimal_is_IsNumeral n (omega (arith, p.0))).1) in
    (digits_value 10 digits, record { digits = digits; is_number = number; target_is = refl; line_is = e }, inl value)
capped word line digits None e h p =
    let number = number_from digits h in
    let above : 2 ^ 32 - 1 ≤ digits_value 10 digits = elim (cases_lt (digits_value 10 digits) (2 ^ 32)) [
      | inl lt ↦ absurd (p (digits_value 10 digits) lt (sym (decimal-digits_value (numerals_by_value (AllDigits 10) tells_digits) digits number.numeral.1 number.numeral.0 number.no_zero (omega arith))))
      | inr ge ↦ omega arith
    ] in
    (digits_value 10 digits, record { digits = digits; is_number = number; target_is = refl; line_is = e }, inr (refl, above))
