-- The value that std reads is the value of the digits of a word.
use Rattle.std.proofs.Common.{◌≡◌, ℕ, ◌^◌, ◌<◌, ◌≤◌, ◌==◌, ◌&&◌, List, [], ◌∷◌, Bool, Some, None, Result, Ok, Err, true, false, cond, nat_lt, refl, ap, sym, subst, ◌∙◌, length, drop, slice_index, IsAscii, IsUtf8, MatchResult, Bor, arith}
use Rattle.std.specs.List.{list_all}
use Rattle.std.specs.Char.{is_digit, digit_value}
use Rattle.std.specs.Result.{result_ok, OkIff}
use Rattle.std.specs.Str.Parse.{AllDigits, IsNumeral, digits_value, without_leading_plus, ParsesUnsigned}
use Rattle.std.proofs.lemmas.Bool.{ltb-true, lt-ltb, and_parts, and_from, cond-true, cond-false, false_from_ne_true, ne_eqb, eq-eqb, eqb-true}
use Rattle.std.proofs.lemmas.Str.{IsUtf8-from_ascii}
use Rattle.std.proofs.lemmas.Str.Ascii.{IsAscii-cons, IsAscii-nil}
use Rattle.std.proofs.lemmas.Bool.Decides.{nat_tests}
use Rattle.asm_line.specs.Numbers.{value_in}
use Rattle.debugger_commands.specs.Typed.{printed_address, turns_of}

all_digits : (base : ℕ) (digits : List ℕ) → list_all (λ b. is_digit b base) digits ≡ true → AllDigits base digits
all_digits base [] all = tt
all_digits base (b ∷ bs) all =
    let parts = and_parts (nat_lt (digit_value b) base) (list_all (λ c. is_digit c base) bs) all in
    (ltb-true (digit_value b) base parts.0, all_digits base bs parts.1)

each_digit : (base : ℕ) (digits : List ℕ) → AllDigits base digits → list_all (λ b. is_digit b base) digits ≡ true
each_digit base [] each = refl
each_digit base (b ∷ bs) each = and_from (nat_lt (digit_value b) base) _ (lt-ltb (digit_value b) base each.0) (each_digit base bs each.1)

-- a byte past ASCII is no digit of a base up to 36
digit_is_ascii : (b base : ℕ) → base ≤ 36 → digit_value b < base → b < 128
digit_is_ascii b base high digit = grind (arith, nat_tests)

ascii_digits : (base : ℕ) (digits : List ℕ) → base ≤ 36 → AllDigits base digits → IsAscii digits
ascii_digits base [] high each = IsAscii-nil
ascii_digits base (b ∷ bs) high each = IsAscii-cons b bs (digit_is_ascii b base high each.0) (ascii_digits base bs high each.1)

-- the text that `from_utf8` answered
pub same_text : {E : Type 0} (r : Result (Bor (List ℕ)) E) (bytes : List ℕ) (text : Bor (List ℕ)) (Q : E → Type 0) → Some text ≡ result_ok r → MatchResult r (λ s. (s.now ≡ bytes) × IsUtf8 bytes) Q → text.now ≡ bytes
same_text (Ok s) bytes text Q some cases = let e : text ≡ s = cc in ap (λ (x : Bor (List ℕ)). x.now) e ∙ cases.0
same_text (Err e) bytes text Q some cases = absurd (cc)

not_text : {T E : Type 0} (r : Result T E) (bytes : List ℕ) (P : T → Type 0) (Q : E → Type 0) → None ≡ result_ok r → MatchResult r P (λ e. ¬ (IsUtf8 bytes) × Q e) → ¬ (IsUtf8 bytes)
not_text (Ok x) bytes P Q none text = absurd (cc)
not_text (Err e) bytes P Q none text = text.0

-- ---- four hexadecimal digits

fits_in : (base : ℕ) (digits : List ℕ) → AllDigits base digits → digits_value base digits < 2 ^ 16 → value_in base digits ≡ Some (digits_value base digits)
fits_in base digits each below = cond-true _ (Some (digits_value base digits)) None (and_from _ _ (each_digit base digits each) (lt-ltb (digits_value base digits) (2 ^ 16) below))

fits_not : (base : ℕ) (digits : List ℕ) → ¬ (AllDigits base digits × (digits_value base digits < 2 ^ 16)) → value_in base digits ≡ None
fits_not base digits refused = cond-false _ (Some (digits_value base digits)) None (false_from_ne_true (list_all (λ b. is_digit b base) digits && nat_lt (digits_value base digits) (2 ^ 16)) (λ both.
    let parts = and_parts (list_all (λ b. is_digit b base) digits) (nat_lt (digits_value base digits) (2 ^ 16)) both in
    refused (all_digits base digits parts.0, ltb-true (digits_value base digits) (2 ^ 16) parts.1)))

four : (word : List ℕ) → length word ≡ 4 → printed_address word ≡ value_in 16 word
four word size = cond-true _ (value_in 16 word) None (eq-eqb (length word) 4 size)

pub not_printed : {T E : Type 0} (r : Result T E) (word : List ℕ) (P : T → Type 0) (Q : E → Type 0) → length word ≡ 4 → None ≡ result_ok r → MatchResult r P (λ e. ¬ (IsUtf8 word) × Q e) → None ≡ printed_address word
not_printed r word P Q size none text =
    sym (four word size ∙ fits_not 16 word (λ digits. not_text r word P Q none text (IsUtf8-from_ascii word (ascii_digits 16 word (omega arith) digits.0))))

value_is : {E : Type 0} (r : Result ℕ E) (word : List ℕ) → 0 < length word → OkIff r (IsNumeral 16 word × (digits_value 16 word < 2 ^ 16)) (digits_value 16 word) → result_ok r ≡ value_in 16 word
value_is (Ok x) word some parsed = ap (λ n. Some n) parsed.1 ∙ sym (fits_in 16 word parsed.0.0.1 parsed.0.1)
value_is (Err e) word some parsed = sym (fits_not 16 word (λ fits. parsed ((some, fits.0), fits.1)))

pub printed_is : {E : Type 0} (r : Result ℕ E) (text word : List ℕ) → text ≡ word → length word ≡ 4 → ¬ (slice_index word 0 ≡ 43) → ParsesUnsigned 16 16 text r → result_ok r ≡ printed_address word
printed_is r text word same size sign parsed =
    let whole : without_leading_plus text ≡ word = ap without_leading_plus same ∙ ap (λ v. drop (cond v 1 0) word) (ne_eqb (slice_index word 0) 43 sign) in
    let read = subst (λ ds. OkIff r (IsNumeral 16 ds × (digits_value 16 ds < 2 ^ 16)) (digits_value 16 ds)) whole parsed in
    value_is r word (omega arith) read ∙ sym (four word size)

-- ---- numbers of turns

is_count : (digits : List ℕ) → IsNumeral 10 digits → digits_value 10 digits < 2 ^ 64
    → cond (nat_lt 0 (length digits) && (list_all (λ b. is_digit b 10) digits && nat_lt (digits_value 10 digits) (2 ^ 64))) (Some (digits_value 10 digits)) None ≡ Some (digits_value 10 digits)
is_count digits numeral below =
    cond-true _ (Some (digits_value 10 digits)) None (and_from _ _ (lt-ltb 0 (length digits) numeral.0) (and_from _ _ (each_digit 10 digits numeral.1) (lt-ltb (digits_value 10 digits) (2 ^ 64) below)))

no_count : (digits : List ℕ) → ¬ (IsNumeral 10 digits × (digits_value 10 digits < 2 ^ 64))
    → cond (nat_lt 0 (length digits) && (list_all (λ b. is_digit b 10) digits && nat_lt (digits_value 10 digits) (2 ^ 64))) (Some (digits_value 10 digits)) None ≡ None
no_count digits refused = cond-false _ (Some (digits_value 10 digits)) None (false_from_ne_true (nat_lt 0 (length digits) && (list_all (λ b. is_digit b 10) digits && nat_lt (digits_value 10 digits) (2 ^ 64))) (λ all.
    let parts = and_parts (nat_lt 0 (length digits)) (list_all (λ b. is_digit b 10) digits && nat_lt (digits_value 10 digits) (2 ^ 64)) all in
    let more = and_parts (list_all (λ b. is_digit b 10) digits) (nat_lt (digits_value 10 digits) (2 ^ 64)) parts.1 in
    refused ((ltb-true 0 (length digits) parts.0, all_digits 10 digits more.0), ltb-true (digits_value 10 digits) (2 ^ 64) more.1)))

sign_is_ascii : (b : ℕ) (bs : List ℕ) (v : Bool) → (b == 43) ≡ v → AllDigits 10 (drop (cond v 1 0) (b ∷ bs)) → IsAscii (b ∷ bs)
sign_is_ascii b bs true sign each = IsAscii-cons b bs (let e = eqb-true b 43 sign in omega (arith, e)) (ascii_digits 10 bs (omega arith) each)
sign_is_ascii b bs false sign each = ascii_digits 10 (b ∷ bs) (omega arith) each

count_is_ascii : (word : List ℕ) → AllDigits 10 (without_leading_plus word) → IsAscii word
count_is_ascii [] each = IsAscii-nil
count_is_ascii (b ∷ bs) each = sign_is_ascii b bs (b == 43) refl each

pub not_turns : {T E : Type 0} (r : Result T E) (word : List ℕ) (P : T → Type 0) (Q : E → Type 0) → None ≡ result_ok r → MatchResult r P (λ e. ¬ (IsUtf8 word) × Q e) → None ≡ turns_of word
not_turns r word P Q none text = sym (no_count (without_leading_plus word) (λ digits. not_text r word P Q none text (IsUtf8-from_ascii word (count_is_ascii word digits.0.1))))

count_is : {E : Type 0} (r : Result ℕ E) (word : List ℕ) → ParsesUnsigned 64 10 word r → result_ok r ≡ turns_of word
count_is (Ok x) word parsed = ap (λ n. Some n) parsed.1 ∙ sym (is_count (without_leading_plus word) parsed.0.0 parsed.0.1)
count_is (Err e) word parsed = sym (no_count (without_leading_plus word) parsed)

pub turns_are : {E : Type 0} (r : Result ℕ E) (text word : List ℕ) → text ≡ word → ParsesUnsigned 64 10 text r → result_ok r ≡ turns_of word
turns_are r text word same parsed = count_is r word (subst (λ ds. ParsesUnsigned 64 10 ds r) same parsed)
