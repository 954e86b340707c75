-- The value that std reads is the value of the number's text.
use Rattle.std.proofs.Common.{◌≡◌, ℕ, ◌^◌, ◌<◌, ◌≤◌, List, [], ◌∷◌, Some, None, Result, Ok, Err, true, false, cond, nat_lt, ◌&&◌, refl, ap, sym, subst, ◌∙◌, length, drop, slice_index, IsAscii, IsUtf8, MatchResult, Bor, arith}
use Rattle.std.specs.List.{list_all}
use Rattle.std.specs.Char.{is_digit, is_ascii_digit, digit_value}
use Rattle.std.specs.Result.{result_ok, OkIff}
use Rattle.std.specs.Str.Parse.{AllDigits, IsNumeral, digits_value, without_leading_plus, ParsesUnsigned}
use Rattle.std.proofs.lemmas.Bool.{ltb-true, lt-ltb, and_parts, and_from, cond-true, cond-false, and_left, false_from_ne_true, false≢true, ne_eqb}
use Rattle.std.proofs.lemmas.Str.{IsUtf8-from_ascii}
use Rattle.std.proofs.lemmas.Str.Ascii.{IsAscii-cons, IsAscii-nil}
use Rattle.std.proofs.lemmas.Bool.Decides.{nat_tests}
use Rattle.asm_line.specs.Numbers.{value_in}

AllDigits-from_all : (base : ℕ) (digits : List ℕ) → list_all (λ b. is_digit b base) digits ≡ true → AllDigits base digits
AllDigits-from_all base [] all = tt
AllDigits-from_all base (b ∷ bs) all =
    let parts = and_parts (nat_lt (digit_value b) base) (list_all (λ c. is_digit c base) bs) all in
    (ltb-true (digit_value b) base parts.0, AllDigits-from_all base bs parts.1)

all-from_AllDigits : (base : ℕ) (digits : List ℕ) → AllDigits base digits → list_all (λ b. is_digit b base) digits ≡ true
all-from_AllDigits base [] each = refl
all-from_AllDigits base (b ∷ bs) each = and_from (nat_lt (digit_value b) base) _ (lt-ltb (digit_value b) base each.0) (all-from_AllDigits base bs each.1)

-- a byte past ASCII is no digit of a base up to 36
digit_is_ascii : (b base : ℕ) → base ≤ 36 → digit_value b < base → b < 128
digit_is_ascii b base high digit = grind (arith, nat_tests)

IsAscii-from_digits : (base : ℕ) (digits : List ℕ) → base ≤ 36 → AllDigits base digits → IsAscii digits
IsAscii-from_digits base [] high each = IsAscii-nil
IsAscii-from_digits base (b ∷ bs) high each = IsAscii-cons b bs (digit_is_ascii b base high each.0) (IsAscii-from_digits base bs high each.1)

pub no_value : {T E : Type 0} (r : Result T E) (base : ℕ) (digits : List ℕ) (P : T → Type 0) (Q : E → Type 0) → base ≤ 16 → None ≡ result_ok r → MatchResult r P (λ e. ¬ (IsUtf8 digits) × Q e) → None ≡ value_in base digits
no_value (Ok x) base digits P Q high none text = absurd (cc)
no_value (Err e) base digits P Q high none text =
    let not_all : list_all (λ b. is_digit b base) digits ≡ false = false_from_ne_true _ (λ all. text.0 (IsUtf8-from_ascii digits (IsAscii-from_digits base digits (omega arith) (AllDigits-from_all base digits all)))) in
    sym (cond-false _ (Some (digits_value base digits)) None (and_left _ _ not_all))

value_is : {E : Type 0} (r : Result ℕ E) (base : ℕ) (digits : List ℕ) → 0 < length digits → OkIff r (IsNumeral base digits × (digits_value base digits < 2 ^ 16)) (digits_value base digits) → result_ok r ≡ value_in base digits
value_is (Ok x) base digits some parsed =
    let fits = and_from _ _ (all-from_AllDigits base digits parsed.0.0.1) (lt-ltb (digits_value base digits) (2 ^ 16) parsed.0.1) in
    ap (λ n. Some n) parsed.1 ∙ sym (cond-true _ (Some (digits_value base digits)) None fits)
value_is (Err e) base digits some parsed =
    let refused = false_from_ne_true (list_all (λ b. is_digit b base) digits && nat_lt (digits_value base digits) (2 ^ 16)) (λ both.
    let parts = and_parts (list_all (λ b. is_digit b base) digits) (nat_lt (digits_value base digits) (2 ^ 16)) both in
    parsed ((some, AllDigits-from_all base digits parts.0), ltb-true (digits_value base digits) (2 ^ 16) parts.1)) in
    sym (cond-false _ (Some (digits_value base digits)) None refused)

-- digits do not begin with a sign
no_plus : (b : ℕ) (bs : List ℕ) → is_ascii_digit b ≡ true → without_leading_plus (b ∷ bs) ≡ b ∷ bs
no_plus b bs digit = ap (λ v. drop (cond v 1 0) (b ∷ bs)) (ne_eqb b 43 (λ e. false≢true (subst (λ x. is_ascii_digit x ≡ true) e digit)))

pub value_read : {E : Type 0} (r : Result ℕ E) (base : ℕ) (text digits : List ℕ) → text ≡ digits → is_ascii_digit (slice_index digits 0) ≡ true → ParsesUnsigned 16 base text r → result_ok r ≡ value_in base digits
value_read r base text [] same digit parsed = absurd (false≢true digit)
value_read r base text (b ∷ bs) same digit parsed =
    let whole : without_leading_plus text ≡ b ∷ bs = ap without_leading_plus same ∙ no_plus b bs digit in
    value_is r base (b ∷ bs) (omega arith) (subst (λ ds. OkIff r (IsNumeral base ds × (digits_value base ds < 2 ^ 16)) (digits_value base ds)) whole parsed)

-- the text that `from_utf8` answered
pub same_text : {E : Type 0} (r : Result (Bor (List ℕ)) E) (bytes : List ℕ) (text : Bor (List ℕ)) (Q : E → Type 0) → Some text ≡ result_ok r → MatchResult r (λ s. (s.now ≡ bytes) × IsUtf8 bytes) Q → text.now ≡ bytes
same_text (Ok s) bytes text Q some cases = let e : text ≡ s = cc in ap (λ (x : Bor (List ℕ)). x.now) e ∙ cases.0
same_text (Err e) bytes text Q some cases = absurd (cc)
