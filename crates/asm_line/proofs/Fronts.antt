-- The code reads at the front exactly the token or the error that is there.
use Rattle.std.proofs.Common.{◌≡◌, ◌≢◌, ℕ, ◌+◌, List, [], ◌∷◌, ◌++◌, Bool, true, false, ◌==◌, ◌&&◌, nat_eq, Ok, Err, Option, Some, None, cond, codes, refl, sym, subst, ◌∙◌, ap, take, drop, length, arith, find, ◌⊎◌, inl, inr}
use Rattle.std.specs.List.{prefix_len, AllPass, starts_with}
use Rattle.std.specs.Char.{is_ascii_digit, is_ascii_alphanumeric, to_ascii_uppercase}
use Rattle.std.proofs.Math.Numerals.{one-add}
use Rattle.std.proofs.lemmas.Bool.{cond-true, cond-false, eqb-true, eqb-false, ne_eqb, cases_Bool, and_left, and_right, and_parts, and_from, eq-eqb, or_left, false≢true}
use Rattle.std.proofs.lemmas.Bool.Decides.{nat_tests}
use Rattle.std.proofs.lemmas.List.{take_at, drop_at, append_assoc, length_push, append-nil}
use Rattle.std.proofs.lemmas.List.Elements.{All-nil, All-cons, All-head, All-tail}
use Rattle.std.proofs.lemmas.Option.{same_Some, none-some}
use Rattle.asm_line.specs.Types.{Kind, Mark, ScanFault}
use Rattle.asm_line.specs.Classes.{begins_name, continues_name, is_quote, is_control}
use Rattle.asm_line.specs.Numbers.{number_of}
use Rattle.asm_line.specs.Tokens.{BeginsWithout, IsName, IsNumber, IsToken, IsString, IsOpenString, IsBrokenString, IsStrayByte, BeginsFault, HasNoControlByte, IsAf, doubled, mark_byte}
use Rattle.asm_line.specs.Private.Reading.{is_af, first_token, every_mark, first_name, first_number, number_or_fault, quoted_or_fault, mark_or_fault, mark_of, string_len, longer_by}
use Rattle.asm_line.proofs.Strings.{len_after, len_at_end, len_at_control, EndsContent, divides}

-- The longest run of a class at the front.
module _ (p : ℕ → Bool) where
  run_len : (text after : List ℕ) → AllPass p text → BeginsWithout p after → prefix_len p (text ++ after) ≡ length text
  run_len [] [] all ended = refl
  run_len [] (b ∷ after) all ended = cond-false (p b) _ 0 ended
  run_len (b ∷ text) after all ended =
      cond-true (p b) (1 + prefix_len p (text ++ after)) 0 (All-head (λ x. p x ≡ true) b text all)
      ∙ ap (λ n. 1 + n) (run_len text after (All-tail (λ x. p x ≡ true) b text all) ended) ∙ one-add (length text)

  -- a list is its run and what follows that
  record Runs (bs : List ℕ) : Type 0 where
    pub text : List ℕ
    pub after : List ℕ
    pub bytes : bs ≡ text ++ after
    pub all : AllPass p text
    pub ended : BeginsWithout p after

  runs : (bs : List ℕ) → Runs bs
  runs [] = record { text = []; after = []; bytes = refl; all = All-nil (λ x. p x ≡ true); ended = tt }
  runs (b ∷ bs) =
      elim (cases_Bool (p b)) [
        | inl passes ↦ let more = runs bs in record { text = b ∷ more.text; after = more.after; bytes = ap (λ x. b ∷ x) more.bytes; all = All-cons (λ x. p x ≡ true) b more.text passes more.all; ended = more.ended }
        | inr stops ↦ record { text = []; after = b ∷ bs; bytes = refl; all = All-nil (λ x. p x ≡ true); ended = stops }
      ]

-- names

first_name_at : (text after : List ℕ) → prefix_len continues_name (text ++ after) ≡ length text → first_name (text ++ after) ≡ cond (is_af text && starts_with nat_eq after (codes "'")) (Kind.OtherAf, length text + 1) (Kind.Name, length text)
first_name_at text after len =
    let read : ℕ → List ℕ → List ℕ → Kind × ℕ = λ n name more. cond (is_af name && starts_with nat_eq more (codes "'")) (Kind.OtherAf, n + 1) (Kind.Name, n) in
    ap (λ n. read n (take n (text ++ after)) (drop n (text ++ after))) len
    ∙ ap (λ name. read (length text) name (drop (length text) (text ++ after))) (take_at text after (length text) refl)
    ∙ ap (λ more. read (length text) text more) (drop_at text after (length text) refl)

no_apostrophe : (after : List ℕ) → BeginsWithout (λ b. b == 0x27) after → starts_with nat_eq after (codes "'") ≡ false
no_apostrophe [] ended = refl
no_apostrophe (b ∷ after) ended = and_left (nat_eq 0x27 b) true (ne_eqb 0x27 b (λ same. eqb-false b 0x27 ended (sym same)))

IsAf-from_test : (name : List ℕ) → is_af name ≡ true → IsAf name
IsAf-from_test [] af = absurd (false≢true af)
IsAf-from_test (a ∷ []) af = absurd (false≢true af)
IsAf-from_test (a ∷ f ∷ b ∷ bs) af = absurd (false≢true af)
IsAf-from_test (a ∷ f ∷ []) af =
    let letters = and_parts (to_ascii_uppercase a == 0x41) (to_ascii_uppercase f == 0x46) af in
    ap (λ x. x ∷ to_ascii_uppercase f ∷ []) (eqb-true _ 0x41 letters.0) ∙ ap (λ x. 0x41 ∷ x ∷ []) (eqb-true _ 0x46 letters.1)

-- the test is true for each AF
test-from_IsAf : (name : List ℕ) → IsAf name → is_af name ≡ true
test-from_IsAf [] af = absurd (cc)
test-from_IsAf (a ∷ []) af = absurd (cc)
test-from_IsAf (a ∷ f ∷ b ∷ bs) af = absurd (cc)
test-from_IsAf (a ∷ f ∷ []) af =
    let first : to_ascii_uppercase a ≡ 0x41 = cc in
    let second : to_ascii_uppercase f ≡ 0x46 = cc in
    and_from _ _ (eq-eqb _ 0x41 first) (eq-eqb _ 0x46 second)

name_read : (text after : List ℕ) → IsName text → BeginsWithout continues_name after → (IsAf text → BeginsWithout (λ b. b == 0x27) after) → first_token (text ++ after) ≡ Ok (Kind.Name, length text)
name_read [] after name ended no_af = absurd name
name_read (b ∷ more) after name ended no_af =
    let all : AllPass continues_name (b ∷ more) = All-cons (λ x. continues_name x ≡ true) b more (or_left (begins_name b) (is_ascii_digit b) name.0) name.1 in
    let plain : (is_af (b ∷ more) && starts_with nat_eq after (codes "'")) ≡ false =
    elim (cases_Bool (is_af (b ∷ more))) [
      | inl af ↦ and_right (is_af (b ∷ more)) _ (no_apostrophe after (no_af (IsAf-from_test (b ∷ more) af)))
      | inr other ↦ and_left (is_af (b ∷ more)) _ other
    ] in
    cond-true (begins_name b) _ _ name.0
    ∙ ap (λ x. Ok x) (first_name_at (b ∷ more) after (run_len continues_name (b ∷ more) after all ended) ∙ cond-false _ (Kind.OtherAf, length (b ∷ more) + 1) (Kind.Name, length (b ∷ more)) plain)

letter_a : (a : ℕ) → to_ascii_uppercase a ≡ 0x41 → (a ≡ 0x41) ⊎ (a ≡ 0x61)
letter_a a e = grind (arith, nat_tests)

letter_f : (f : ℕ) → to_ascii_uppercase f ≡ 0x46 → (f ≡ 0x46) ⊎ (f ≡ 0x66)
letter_f f e = grind (arith, nat_tests)

af_read : (a f : ℕ) (after : List ℕ) → (a ≡ 0x41) ⊎ (a ≡ 0x61) → (f ≡ 0x46) ⊎ (f ≡ 0x66) → first_token (a ∷ f ∷ 0x27 ∷ after) ≡ Ok (Kind.OtherAf, 3)
af_read a f after (inl e) (inl g) = rw (e, g) refl
af_read a f after (inl e) (inr g) = rw (e, g) refl
af_read a f after (inr e) (inl g) = rw (e, g) refl
af_read a f after (inr e) (inr g) = rw (e, g) refl

other_af_read : (name after : List ℕ) → IsAf name → first_token ((name ++ 0x27 ∷ []) ++ after) ≡ Ok (Kind.OtherAf, length (name ++ 0x27 ∷ []))
other_af_read [] after af = absurd (cc)
other_af_read (a ∷ []) after af = absurd (cc)
other_af_read (a ∷ f ∷ b ∷ bs) after af = absurd (cc)
other_af_read (a ∷ f ∷ []) after af =
    let first : to_ascii_uppercase a ≡ 0x41 = cc in
    let second : to_ascii_uppercase f ≡ 0x46 = cc in
    af_read a f after (letter_a a first) (letter_f f second)

-- numbers

digit_begins_no_name : (b : ℕ) → is_ascii_digit b ≡ true → begins_name b ≡ false
digit_begins_no_name b digit = grind (arith, nat_tests)

first_number_at : (text after : List ℕ) → prefix_len is_ascii_alphanumeric (text ++ after) ≡ length text → first_number (text ++ after) ≡ number_or_fault (number_of text) (length text)
first_number_at text after len =
    ap (λ n. number_or_fault (number_of (take n (text ++ after))) n) len
    ∙ ap (λ x. number_or_fault (number_of x) (length text)) (take_at text after (length text) refl)

pub number_read : (text after : List ℕ) (o : Option ℕ) → IsNumber text → BeginsWithout is_ascii_alphanumeric after → number_of text ≡ o → first_token (text ++ after) ≡ number_or_fault o (length text)
number_read [] after o number ended value = absurd number
number_read (b ∷ more) after o number ended value =
    let all : AllPass is_ascii_alphanumeric (b ∷ more) = All-cons (λ x. is_ascii_alphanumeric x ≡ true) b more (or_left _ _ (or_left (is_ascii_digit b) _ number.0)) number.1 in
    cond-false (begins_name b) _ _ (digit_begins_no_name b number.0)
    ∙ cond-true (is_ascii_digit b) (first_number (b ∷ (more ++ after))) _ number.0
    ∙ first_number_at (b ∷ more) after (run_len is_ascii_alphanumeric (b ∷ more) after all ended)
    ∙ ap (λ x. number_or_fault x (length (b ∷ more))) value

-- strings

quote_cases : (q : ℕ) → is_quote q ≡ true → (q ≡ 0x27) ⊎ (q ≡ 0x22)
quote_cases q quoted = grind (arith, nat_tests)

-- a test that is false for both quotes is false for each quote
no_quote : (test : ℕ → Bool) → test 0x27 ≡ false → test 0x22 ≡ false → (q : ℕ) → is_quote q ≡ true → test q ≡ false
no_quote test single double q quoted =
    elim (quote_cases q quoted) [
      | inl e ↦ ap test e ∙ single
      | inr e ↦ ap test e ∙ double
    ]

string_read : (q : ℕ) (content rest : List ℕ) → is_quote q ≡ true → HasNoControlByte content → first_token (q ∷ doubled q content ++ rest) ≡ quoted_or_fault (longer_by (length (doubled q content)) (string_len q rest))
string_read q content rest quoted plain =
    cond-false (begins_name q) _ _ (no_quote begins_name refl refl q quoted)
    ∙ cond-false (is_ascii_digit q) _ _ (no_quote is_ascii_digit refl refl q quoted)
    ∙ cond-true (is_quote q) (quoted_or_fault (string_len q (doubled q content ++ rest))) _ quoted
    ∙ ap (λ r. quoted_or_fault r) (len_after q content rest plain)

quoted_read : (text after : List ℕ) → IsString text after → first_token (text ++ after) ≡ Ok (Kind.Quoted, length text)
quoted_read text after s =
    let inside = doubled s.quote s.content in
    let size : length inside + 1 + 1 ≡ length (s.quote ∷ inside ++ s.quote ∷ []) = omega (arith, length_push inside s.quote) in
    rw s.text_is
    (ap first_token (append_assoc (s.quote ∷ inside) (s.quote ∷ []) after)
    ∙ string_read s.quote s.content (s.quote ∷ after) s.quoted s.plain
    ∙ ap (λ r. quoted_or_fault (longer_by (length inside) r)) (len_at_end s.quote after s.ended)
    ∙ ap (λ n. Ok (Kind.Quoted, n)) size)

control_is_no_quote : (q b : ℕ) → is_quote q ≡ true → is_control b ≡ true → (b == q) ≡ false
control_is_no_quote q b quoted control = ne_eqb b q (λ same. false≢true (sym (no_quote is_control refl refl q quoted) ∙ ap is_control (sym same) ∙ control))

broken_read : (bs : List ℕ) → IsBrokenString bs → first_token bs ≡ Err ScanFault.BadByte
broken_read bs s =
    rw s.bytes_are
    (string_read s.quote s.content (s.byte ∷ s.more) s.quoted s.plain
    ∙ ap (λ r. quoted_or_fault (longer_by (length (doubled s.quote s.content)) r)) (len_at_control s.quote s.byte s.more (control_is_no_quote s.quote s.byte s.quoted s.control) s.control))

open_read : (bs : List ℕ) → IsOpenString bs → first_token bs ≡ Err ScanFault.OpenString
open_read bs s =
    rw s.bytes_are (ap (λ x. first_token (s.quote ∷ x)) (sym (append-nil (doubled s.quote s.content))) ∙ string_read s.quote s.content [] s.quoted s.plain)

-- marks

mark_found : (m : Mark) → mark_of (mark_byte m) ≡ Some m
mark_found Mark.Comma = refl
mark_found Mark.Open = refl
mark_found Mark.Close = refl
mark_found Mark.Colon = refl
mark_found Mark.Plus = refl
mark_found Mark.Minus = refl
mark_found Mark.Star = refl
mark_found Mark.Slash = refl
mark_found Mark.Dollar = refl

mark_read : (m : Mark) (after : List ℕ) → first_token (mark_byte m ∷ after) ≡ Ok (Kind.Mark m, 1)
mark_read Mark.Comma after = refl
mark_read Mark.Open after = refl
mark_read Mark.Close after = refl
mark_read Mark.Colon after = refl
mark_read Mark.Plus after = refl
mark_read Mark.Minus after = refl
mark_read Mark.Star after = refl
mark_read Mark.Slash after = refl
mark_read Mark.Dollar after = refl

find_some : {X : Type 0} (test : X → Bool) (xs : List X) (x : X) → find test xs ≡ Some x → test x ≡ true
find_some test [] x found = absurd (cc)
find_some test (y ∷ ys) x found =
    elim (cases_Bool (test y)) [
      | inl passes ↦ let same : y ≡ x = same_Some y x (sym (cond-true (test y) (Some y) (find test ys) passes) ∙ found) in subst (λ z. test z ≡ true) same passes
      | inr fails ↦ find_some test ys x (sym (cond-false (test y) (Some y) (find test ys) fails) ∙ found)
    ]

find_none : {X : Type 0} (test : X → Bool) (xs : List X) → ((x : X) → test x ≡ false) → find test xs ≡ None
find_none test [] fails = refl
find_none test (x ∷ xs) fails = cond-false (test x) _ _ (fails x) ∙ find_none test xs fails

stray_read : (bs : List ℕ) → IsStrayByte bs → first_token bs ≡ Err ScanFault.BadByte
stray_read bs s =
    rw s.bytes_are
    (cond-false (begins_name s.byte) _ _ s.no_name ∙ cond-false (is_ascii_digit s.byte) _ _ s.no_number ∙ cond-false (is_quote s.byte) _ _ s.no_string
    ∙ ap mark_or_fault (find_none (λ m. s.byte == mark_byte m) every_mark (λ m. ne_eqb s.byte (mark_byte m) (s.no_mark m))))

-- The code reads a token at the front as that token, and an error as that error.

pub token_read : (k : Kind) (text after : List ℕ) → IsToken k text after → first_token (text ++ after) ≡ Ok (k, length text)
token_read Kind.Name text after t = name_read text after t.0 t.1 t.2
token_read Kind.OtherAf text after t = rw t.2 (other_af_read t.0 after t.1)
token_read (Kind.Number n) text after t = number_read text after (Some n) t.0 t.1 t.2
token_read Kind.Quoted text after t = quoted_read text after t
token_read (Kind.Mark m) text after t = rw t (mark_read m after)

pub fault_read : (f : ScanFault) (bs : List ℕ) → BeginsFault f bs → first_token bs ≡ Err f
fault_read ScanFault.BadByte bs (inl s) = broken_read bs s
fault_read ScanFault.BadByte bs (inr s) = stray_read bs s
fault_read ScanFault.OpenString bs s = open_read bs s
fault_read ScanFault.BadNumber bs s = rw s.bytes_are (number_read s.text s.after None s.number s.longest s.no_value)
fault_read ScanFault.LineTooLong bs s = absurd s
fault_read ScanFault.NoMemory bs s = absurd s

-- Each front that is no comment begins with a token or an error.
pub data AtFront (bs : List ℕ) : Type 0 where
  token : (k : Kind) (text after : List ℕ) → bs ≡ text ++ after → IsToken k text after → AtFront bs
  fault : (f : ScanFault) → BeginsFault f bs → AtFront bs

at_af : (name after : List ℕ) → IsAf name → IsName name → BeginsWithout continues_name after → AtFront (name ++ after)
at_af name [] af begun ended = token Kind.Name name [] refl (begun, ended, λ _. tt)
at_af name (b ∷ after) af begun ended =
    elim (cases_Bool (b == 0x27)) [
      | inl quoted ↦ token Kind.OtherAf (name ++ 0x27 ∷ []) after (ap (λ x. name ++ x ∷ after) (eqb-true b 0x27 quoted) ∙ sym (append_assoc name (0x27 ∷ []) after)) (name, af, refl)
      | inr other ↦ token Kind.Name name (b ∷ after) refl (begun, ended, λ _. other)
    ]

at_name : (b : ℕ) (more : List ℕ) → begins_name b ≡ true → AtFront (b ∷ more)
at_name b more begun =
    let run = runs continues_name more in
    elim (cases_Bool (is_af (b ∷ run.text))) [
      | inl af ↦ subst AtFront (ap (λ x. b ∷ x) (sym run.bytes)) (at_af (b ∷ run.text) run.after (IsAf-from_test (b ∷ run.text) af) (begun, run.all) run.ended)
      | inr other ↦ token Kind.Name (b ∷ run.text) run.after (ap (λ x. b ∷ x) run.bytes) ((begun, run.all), run.ended, λ af. absurd (false≢true (sym other ∙ test-from_IsAf (b ∷ run.text) af)))
    ]

at_number_of : (b : ℕ) (more text after : List ℕ) (o : Option ℕ) → more ≡ text ++ after → IsNumber (b ∷ text) → BeginsWithout is_ascii_alphanumeric after → number_of (b ∷ text) ≡ o → AtFront (b ∷ more)
at_number_of b more text after (Some n) bytes number ended value = token (Kind.Number n) (b ∷ text) after (ap (λ x. b ∷ x) bytes) (number, ended, value)
at_number_of b more text after None bytes number ended value = fault ScanFault.BadNumber (record { text = b ∷ text; after = after; bytes_are = ap (λ x. b ∷ x) bytes; number = number; longest = ended; no_value = value })

at_number : (b : ℕ) (more : List ℕ) → is_ascii_digit b ≡ true → AtFront (b ∷ more)
at_number b more begun =
    let run = runs is_ascii_alphanumeric more in
    at_number_of b more run.text run.after (number_of (b ∷ run.text)) run.bytes (begun, run.all) run.ended refl

at_string_rest : (q : ℕ) (more content rest : List ℕ) → more ≡ doubled q content ++ rest → is_quote q ≡ true → HasNoControlByte content → EndsContent q rest → AtFront (q ∷ more)
at_string_rest q more content [] bytes quoted plain ended =
    fault ScanFault.OpenString (record { quote = q; content = content; quoted = quoted; plain = plain; bytes_are = ap (λ x. q ∷ x) (bytes ∙ append-nil (doubled q content)) })
at_string_rest q more content (b ∷ after) bytes quoted plain (inl closed) =
    let text : List ℕ = q ∷ doubled q content ++ q ∷ [] in
    let whole : q ∷ more ≡ text ++ after = ap (λ x. q ∷ x) (bytes ∙ ap (λ x. doubled q content ++ x ∷ after) closed.0) ∙ sym (append_assoc (q ∷ doubled q content) (q ∷ []) after) in
    token Kind.Quoted text after whole (record { quote = q; content = content; quoted = quoted; plain = plain; text_is = refl; ended = closed.1 })
at_string_rest q more content (b ∷ after) bytes quoted plain (inr control) =
    fault ScanFault.BadByte (inl (record { quote = q; content = content; byte = b; more = after; quoted = quoted; plain = plain; bytes_are = ap (λ x. q ∷ x) bytes; control = control.1 }))

at_string : (q : ℕ) (more : List ℕ) → is_quote q ≡ true → AtFront (q ∷ more)
at_string q more quoted =
    let parts = divides q more (no_quote is_control refl refl q quoted) in
    at_string_rest q more parts.content parts.rest parts.bytes quoted parts.plain parts.ended

at_mark : (b : ℕ) (more : List ℕ) (o : Option Mark) → begins_name b ≡ false → is_ascii_digit b ≡ false → is_quote b ≡ false → b ≢ 0x3B → mark_of b ≡ o → AtFront (b ∷ more)
at_mark b more (Some m) no_name no_number no_string no_comment found =
    let same : b ≡ mark_byte m = eqb-true b (mark_byte m) (find_some (λ x. b == mark_byte x) every_mark m found) in
    token (Kind.Mark m) (b ∷ []) more refl (ap (λ x. x ∷ []) same)
at_mark b more None no_name no_number no_string no_comment found =
    fault ScanFault.BadByte (inr (record {
      byte = b;
      more = more;
      bytes_are = refl;
      no_name = no_name;
      no_number = no_number;
      no_string = no_string;
      no_mark = λ m same. none-some m (sym found ∙ ap mark_of same ∙ mark_found m);
      no_comment = no_comment;
    }))

pub at_front : (b : ℕ) (more : List ℕ) → b ≢ 0x3B → AtFront (b ∷ more)
at_front b more no_comment =
    elim (cases_Bool (begins_name b)) [
      | inl name ↦ at_name b more name
      | inr no_name ↦ elim (cases_Bool (is_ascii_digit b)) [
        | inl number ↦ at_number b more number
        | inr no_number ↦ elim (cases_Bool (is_quote b)) [
          | inl string ↦ at_string b more string
          | inr no_string ↦ at_mark b more (mark_of b) no_name no_number no_string no_comment refl
        ]
      ]
    ]
