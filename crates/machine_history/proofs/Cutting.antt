-- Texts that are cut at a byte, and the lines of a file of a session.
use Rattle.std.proofs.Common.{◌≡◌, ℕ, zero, suc, ◌^◌, ◌<◌, ◌==◌, ◌/◌, ◌%◌, List, [], ◌∷◌, ◌++◌, true, false, Option, Some, None, Result, Ok, Err, refl, sym, ap, subst, ◌∙◌, append_assoc, arith, codes, decimal, IsUtf8, MatchOption, MatchResult, Bor}
use Rattle.std.specs.Prelude.{slice_index}
use Rattle.std.specs.Result.{result_ok}
use Rattle.std.specs.Str.Parse.{AllDigits}
use Rattle.std.proofs.lemmas.Bool.{eq-eqb, false≢true, ne_eqb}
use Rattle.std.proofs.lemmas.Fmt.{IsAscii-decimal, decimal_is_IsNumeral}
use Rattle.std.proofs.lemmas.Str.{IsUtf8-from_ascii}
use Rattle.std.proofs.lemmas.Str.Parse.{digit_from_value}
use Rattle.hex.specs.Hex.{IsBytes, decode_sized, encode_upper, encode_with, hex_digit_value, upper_digits}
use Rattle.hex.specs.declared.error.FromHexError.{FromHexError}
use Rattle.hex.proofs.HexLemmas.{IsDigits-upper_digits, decode_of-encode_upper, decode_sized-twice, length-encode_with}
use Rattle.cpm_run.specs.declared.arriving.Arrival.{Arrival}
use Rattle.machine_history.specs.Recorded.{arrival_line, closing_line}
use Rattle.machine_history.specs.Private.Cuts.{Lacks}

-- a text has one first place of a byte
pub one_cut : (byte : ℕ) (l m a b : List ℕ) → Lacks byte l → Lacks byte m → l ++ byte ∷ a ≡ m ++ byte ∷ b → (l ≡ m) × (a ≡ b)
one_cut byte [] [] a b p q e = (refl, cc)
one_cut byte [] (y ∷ m) a b p q e = let h : byte ≡ y = cc in absurd (false≢true (sym (subst (λ z. (z == byte) ≡ false) (sym h) q.0) ∙ eq-eqb byte byte refl))
one_cut byte (x ∷ l) [] a b p q e = let h : x ≡ byte = cc in absurd (false≢true (sym (subst (λ z. (z == byte) ≡ false) h p.0) ∙ eq-eqb byte byte refl))
one_cut byte (x ∷ l) (y ∷ m) a b p q e =
    let heads : x ≡ y = cc in
    let tails : l ++ byte ∷ a ≡ m ++ byte ∷ b = cc in
    let rest = one_cut byte l m a b p.1 q.1 tails in
    let fronts : ◌≡◌ {A = List ℕ} (x ∷ l) (y ∷ m) = cc in
    (fronts, rest.1)

pub no_cut : (byte : ℕ) (text front rest : List ℕ) → Lacks byte text → text ≡ front ++ byte ∷ rest → ⊥
no_cut byte [] [] rest p e = cc
no_cut byte [] (y ∷ front) rest p e = cc
no_cut byte (x ∷ text) [] rest p e = let h : x ≡ byte = cc in false≢true (sym (subst (λ z. (z == byte) ≡ false) h p.0) ∙ eq-eqb byte byte refl)
no_cut byte (x ∷ text) (y ∷ front) rest p e = let tails : text ≡ front ++ byte ∷ rest = cc in no_cut byte text front rest p.1 tails

abbrev pub Parts : Type 0
Parts = Option (Bor (List ℕ) × Bor (List ℕ))

abbrev pub IsCut : ℕ → List ℕ → Parts → Type 0
IsCut byte text r = MatchOption r (Lacks byte text) (λ f. Lacks byte f.0.now × (text ≡ f.0.now ++ byte ∷ f.1.now))

pub cut_some : (byte : ℕ) (text front rest : List ℕ) (f : Bor (List ℕ) × Bor (List ℕ)) → IsCut byte text (Some f) → Lacks byte front → text ≡ front ++ byte ∷ rest → (f.0.now ≡ front) × (f.1.now ≡ rest)
cut_some byte text front rest f is lacks text_is = one_cut byte f.0.now front f.1.now rest is.0 lacks (sym is.1 ∙ text_is)

pub cut_none : (byte : ℕ) (text front rest : List ℕ) (r : Parts) → None ≡ r → IsCut byte text r → text ≡ front ++ byte ∷ rest → ⊥
cut_none byte text front rest None none is text_is = no_cut byte text front rest is text_is
cut_none byte text front rest (Some f) none is text_is = cc

-- ---- digits

digits_lack : (ds : List ℕ) (byte : ℕ) → byte < 48 → AllDigits 10 ds → Lacks byte ds
digits_lack [] byte low each = tt
digits_lack (d ∷ ds) byte low each = let k = digit_from_value d each.0 in (ne_eqb d byte (λ e. absurd (omega (arith, k.0))), digits_lack ds byte low each.1)

pub decimal_lacks : (n byte : ℕ) → byte < 48 → n < 2 ^ 64 → Lacks byte (decimal n)
decimal_lacks n byte low lt = digits_lack (decimal n) byte low (decimal_is_IsNumeral n lt).0.1

-- the text that `from_utf8` answered
pub same_text : {E : Type 0} (r : Result (Bor (List ℕ)) E) (bytes : List ℕ) (text : Bor (List ℕ)) (Q : E → Type 0) → Some text ≡ result_ok r → MatchResult r (λ s. (s.now ≡ bytes) × IsUtf8 bytes) Q → text.now ≡ bytes
same_text (Ok s) bytes text Q some cases = let e : text ≡ s = cc in ap (λ (x : Bor (List ℕ)). x.now) e ∙ cases.0
same_text (Err e) bytes text Q some cases = absurd (cc)

pub no_text : {T E : Type 0} (r : Result T E) (bytes : List ℕ) (P : T → Type 0) (Q : E → Type 0) → None ≡ result_ok r → MatchResult r P (λ e. ¬ (IsUtf8 bytes) × Q e) → ¬ (IsUtf8 bytes)
no_text (Ok x) bytes P Q none text = absurd (cc)
no_text (Err e) bytes P Q none text = text.0

pub decimal_text : (n : ℕ) (digits : List ℕ) → n < 2 ^ 64 → digits ≡ decimal n → IsUtf8 digits
decimal_text n digits lt is = subst IsUtf8 (sym is) (IsUtf8-from_ascii (decimal n) (IsAscii-decimal n lt))

-- a digit of a byte is none of the bytes that are no digits
digit_is_not : (byte d : ℕ) → hex_digit_value byte ≡ None → d < 16 → (slice_index upper_digits d == byte) ≡ false
digit_is_not byte d none lt = ne_eqb (slice_index upper_digits d) byte (λ e. (let is : None ≡ Some d = sym none ∙ ap hex_digit_value (sym e) ∙ IsDigits-upper_digits d lt in cc))

pub hex_lacks : (b byte : ℕ) → hex_digit_value byte ≡ None → b < 256 → Lacks byte (encode_upper (b ∷ []))
unfolding encode_with
hex_lacks b byte none lt = (digit_is_not byte (b / 16) none (omega arith), (digit_is_not byte (b % 16) none (omega arith), tt))

pub byte_alone : (b : ℕ) → b < 256 → IsBytes (b ∷ [])
byte_alone b lt zero = lt
byte_alone b lt (suc k) = omega arith

one_byte : (b : ℕ) → b < 256 → decode_sized (encode_upper (b ∷ [])) 1 ≡ Ok (b ∷ [])
one_byte b lt =
    decode_sized-twice (encode_upper (b ∷ [])) 1 (length-encode_with upper_digits (b ∷ [])) ∙ decode_of-encode_upper (b ∷ []) (byte_alone b lt)

-- the byte that the digits of one are read as
pub read_byte : (b : ℕ) (digits out : List ℕ) (r : Result Unit FromHexError) → b < 256 → digits ≡ encode_upper (b ∷ [])
    → MatchResult (decode_sized digits 1) (λ bytes. (r ≡ Ok tt) × (out ≡ bytes)) (λ e. r ≡ Err e) → (r ≡ Ok tt) × (out ≡ b ∷ [])
read_byte b digits out r lt is told =
    subst (λ d. MatchResult d (λ bytes. (r ≡ Ok tt) × (out ≡ bytes)) (λ e. r ≡ Err e)) (ap (λ s. decode_sized s 1) is ∙ one_byte b lt) told

-- the word END has no line feed
pub end_lacks : Lacks 10 (codes "END")
end_lacks = (refl, (refl, (refl, tt)))

-- ---- the lines of a file of a session

pub arrival_parts : (a : Arrival) (rest : List ℕ) → arrival_line a ++ rest ≡ decimal a.turn ++ 32 ∷ (encode_upper (a.byte ∷ []) ++ 10 ∷ rest)
arrival_parts a rest = simp append_assoc

pub closing_parts : (n : ℕ) (rest : List ℕ) → closing_line n ++ rest ≡ decimal n ++ 32 ∷ (codes "END" ++ 10 ∷ rest)
closing_parts n rest = simp append_assoc
