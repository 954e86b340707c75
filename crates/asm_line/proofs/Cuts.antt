-- A line is cut in only one way, and every line has an answer.
use Rattle.std.proofs.Common.{◌≡◌, ◌≢◌, ℕ, suc, zero, ◌+◌, ◌<◌, ◌≤◌, List, [], ◌∷◌, ◌++◌, Bool, true, false, ◌==◌, Result, Ok, Err, refl, sym, subst, ◌∙◌, ap, take, drop, length, arith, ◌⊎◌, inl, inr, length-drop, length-append, nat_lt, slice_index, Vec, Global, IfOk, IfErr}
use Rattle.std.specs.List.{prefix_len}
use Rattle.std.specs.Char.{is_ascii_digit}
use Rattle.std.specs.Result.{is_err}
use Rattle.std.proofs.lemmas.Bool.{cases_lt, cases_eq, cond-true, cond-false, eq-eqb, false≢true, le-ltb, lt-ltb, ne_eqb}
use Rattle.std.proofs.lemmas.List.{take_at, drop_at, drop-drop, length_push, take-append-drop, map-append, length-map}
use Rattle.asm_line.specs.Types.{Kind, ScanFault, Token}
use Rattle.asm_line.specs.Classes.{is_blank, is_quote}
use Rattle.asm_line.specs.Tokens.{Lexeme, lexeme, lexemes, answered_tokens, IsNumber, IsToken, BeginsFault}
use Rattle.asm_line.specs.Lines.{without_blanks, BeginsToken, BeginsTokens, IsEnd, Cut, HasScanFault, Scans, AreSpans}
use Rattle.asm_line.specs.Scanned.{scanned, scanned_within, with_front, with_token}
use Rattle.asm_line.specs.Private.Reading.{Reading, first_token}
use Rattle.asm_line.proofs.Fronts.{token_read, fault_read, at_front}
use Rattle.asm_line.proofs.Fronts.AtFront.{token, fault}

-- What the front of some bytes is.

same_ok : (k l : Kind) (m n : ℕ) → ◌≡◌ {A = Reading} (Ok (k, m)) (Ok (l, n)) → (k ≡ l) × (m ≡ n)
same_ok k l m n e =
    let pair : ◌≡◌ {A = Kind × ℕ} (k, m) (l, n) = cc in
    (ap (λ (x : Kind × ℕ). x.0) pair, ap (λ (x : Kind × ℕ). x.1) pair)

same_lexeme : (t u : Lexeme) → t.kind ≡ u.kind → t.text ≡ u.text → t ≡ u
same_lexeme t u kinds texts =
    let one : t ≡ record { kind = u.kind; text = t.text } = ap (λ k. record { kind = k; text = t.text }) kinds in
    one ∙ ap (λ x. record { kind = u.kind; text = x }) texts

one_token : (line : List ℕ) (t u : Lexeme) (after more : List ℕ) → BeginsToken line t after → BeginsToken line u more → (t ≡ u) × (after ≡ more)
one_token line t u after more b c =
    let both : t.text ++ after ≡ u.text ++ more = sym b.bytes_are ∙ c.bytes_are in
    let read = same_ok t.kind u.kind (length t.text) (length u.text) (sym (token_read t.kind t.text after b.token_is) ∙ ap first_token both ∙ token_read u.kind u.text more c.token_is) in
    let text : t.text ≡ u.text = sym (take_at t.text after (length t.text) refl) ∙ ap (λ x. take (length t.text) x) both ∙ take_at u.text more (length t.text) (sym read.1) in
    let rest : after ≡ more = sym (drop_at t.text after (length t.text) refl) ∙ ap (λ x. drop (length t.text) x) both ∙ drop_at u.text more (length t.text) (sym read.1) in
    (same_lexeme t u read.0 text, rest)

nil_is_no_cons : (b : ℕ) (bs : List ℕ) → [] ≡ b ∷ bs → ⊥
nil_is_no_cons b bs e = cc

end_read : (bs : List ℕ) → IsEnd bs → first_token bs ≡ Err ScanFault.BadByte
end_read [] ended = refl
end_read (b ∷ bs) ended = ap (λ x. first_token (x ∷ bs)) ended

no_quote_at_end : (q : ℕ) → is_quote q ≡ true → q ≡ 0x3B → ⊥
no_quote_at_end q quoted ended = false≢true (ap is_quote (sym ended) ∙ quoted)

no_number_at_end : (text after : List ℕ) → IsNumber text → IsEnd (text ++ after) → ⊥
no_number_at_end [] after number ended = number
no_number_at_end (b ∷ text) after number ended = false≢true (ap is_ascii_digit (sym ended) ∙ number.0)

no_fault_at_end : (f : ScanFault) (bs : List ℕ) → BeginsFault f bs → IsEnd bs → ⊥
no_fault_at_end ScanFault.BadByte bs (inl s) ended = no_quote_at_end s.quote s.quoted (subst IsEnd s.bytes_are ended)
no_fault_at_end ScanFault.BadByte bs (inr s) ended = s.no_comment (subst IsEnd s.bytes_are ended)
no_fault_at_end ScanFault.OpenString bs s ended = no_quote_at_end s.quote s.quoted (subst IsEnd s.bytes_are ended)
no_fault_at_end ScanFault.BadNumber bs s ended = no_number_at_end s.text s.after s.number (subst IsEnd s.bytes_are ended)
no_fault_at_end ScanFault.LineTooLong bs s ended = s
no_fault_at_end ScanFault.NoMemory bs s ended = s

pub token_some : (k : Kind) (text after : List ℕ) → IsToken k text after → 0 < length text
token_some k (b ∷ text) after t = omega arith
token_some Kind.Name [] after t = absurd t.0
token_some Kind.OtherAf [] after t = omega (arith, ap length t.2, length_push t.0 0x27)
token_some (Kind.Number n) [] after t = absurd t.0
token_some Kind.Quoted [] after t = absurd (nil_is_no_cons _ _ t.text_is)
token_some (Kind.Mark m) [] after t = absurd (nil_is_no_cons _ _ t)

-- Two walks along a line, each as far as tokens go, are the same.

no_token_here : (line : List ℕ) (t : Lexeme) (after : List ℕ) → BeginsToken line t after → is_err (first_token (without_blanks line)) ≡ true → ⊥
no_token_here line t after b none = false≢true (sym (ap is_err (ap first_token b.bytes_are ∙ token_read t.kind t.text after b.token_is)) ∙ none)

same_walk : (line rest more : List ℕ) (ts us : List Lexeme) → BeginsTokens line ts rest → BeginsTokens line us more → is_err (first_token (without_blanks rest)) ≡ true → is_err (first_token (without_blanks more)) ≡ true → (ts ≡ us) × (rest ≡ more)
same_walk line rest more [] [] b c e f = (refl, sym b ∙ c)
same_walk line rest more [] (u ∷ us) b c e f = absurd (no_token_here line u c.0 c.1 (ap (λ x. is_err (first_token (without_blanks x))) b ∙ e))
same_walk line rest more (t ∷ ts) [] b c e f = absurd (no_token_here line t b.0 b.1 (ap (λ x. is_err (first_token (without_blanks x))) c ∙ f))
same_walk line rest more (t ∷ ts) (u ∷ us) b c e f =
    let first = one_token line t u b.0 c.0 b.1 c.1 in
    let others = same_walk b.0 rest more ts us b.2 (subst (λ x. BeginsTokens x us more) (sym first.1) c.2) e f in
    (ap (λ x. x ∷ ts) first.0 ∙ ap (λ x. u ∷ x) others.0, others.1)

-- The answer of a line.

end_stays : (rest : List ℕ) → IsEnd (without_blanks rest) → is_err (first_token (without_blanks rest)) ≡ true
end_stays rest ended = ap is_err (end_read (without_blanks rest) ended)

fault_stays : (rest : List ℕ) (f : ScanFault) → BeginsFault f (without_blanks rest) → is_err (first_token (without_blanks rest)) ≡ true
fault_stays rest f stopped = ap is_err (fault_read f (without_blanks rest) stopped)

one_cut : (line : List ℕ) (ts us : List Lexeme) → Cut line ts → Cut line us → ts ≡ us
one_cut line ts us c d = (same_walk line c.rest d.rest ts us c.begins d.begins (end_stays c.rest c.ended) (end_stays d.rest d.ended)).0

cut_or_stop : (line : List ℕ) (ts : List Lexeme) (f : ScanFault) → Cut line ts → HasScanFault line f → ⊥
cut_or_stop line ts f c s =
    let walk = same_walk line c.rest s.rest ts s.tokens c.begins s.begins (end_stays c.rest c.ended) (fault_stays s.rest f s.stopped) in
    no_fault_at_end f (without_blanks s.rest) s.stopped (subst (λ x. IsEnd (without_blanks x)) walk.1 c.ended)

one_fault : (line : List ℕ) (f g : ScanFault) → HasScanFault line f → HasScanFault line g → f ≡ g
one_fault line f g s t =
    let walk = same_walk line s.rest t.rest s.tokens t.tokens s.begins t.begins (fault_stays s.rest f s.stopped) (fault_stays t.rest g t.stopped) in
    let both : ◌≡◌ {A = Reading} (Err f) (Err g) = sym (fault_read f (without_blanks s.rest) s.stopped) ∙ ap (λ x. first_token (without_blanks x)) walk.1 ∙ fault_read g (without_blanks t.rest) t.stopped in
    cc

-- an error is that of the length, or that of what begins furthest left
fault_cases : (line : List ℕ) (f : ScanFault) → Scans line (Err f) → ((f ≡ ScanFault.LineTooLong) × (255 < length line)) ⊎ ((length line ≤ 255) × HasScanFault line f)
fault_cases line ScanFault.BadByte s = inr s
fault_cases line ScanFault.OpenString s = inr s
fault_cases line ScanFault.LineTooLong s = inl (refl, s)
fault_cases line ScanFault.BadNumber s = inr s
fault_cases line ScanFault.NoMemory s = inr s

pub one_answer : (line : List ℕ) (a b : Result (List Lexeme) ScanFault) → Scans line a → Scans line b → a ≡ b
one_answer line (Ok ts) (Ok us) a b = ap (λ x. Ok x) (one_cut line ts us a.1 b.1)
one_answer line (Ok ts) (Err g) a b =
    elim (fault_cases line g b) [
      | inl long ↦ absurd (omega arith)
      | inr stop ↦ absurd (cut_or_stop line ts g a.1 stop.1)
    ]
one_answer line (Err f) (Ok us) a b =
    elim (fault_cases line f a) [
      | inl long ↦ absurd (omega arith)
      | inr stop ↦ absurd (cut_or_stop line us f b.1 stop.1)
    ]
one_answer line (Err f) (Err g) a b =
    elim (fault_cases line f a) [
      | inl long ↦ elim (fault_cases line g b) [
        | inl also ↦ ap (λ x. Err x) (long.0 ∙ sym also.0)
        | inr stop ↦ absurd (omega arith)
      ]
      | inr stop ↦ elim (fault_cases line g b) [
        | inl long ↦ absurd (omega arith)
        | inr also ↦ ap (λ x. Err x) (one_fault line f g stop.1 also.1)
      ]
    ]

-- The answer of a line, as the function gives it.

abbrev ComesTo : List ℕ → Result (List Lexeme) ScanFault → Type 0
ComesTo line (Ok ts) = Cut line ts
ComesTo line (Err f) = HasScanFault line f

comes_after : (line : List ℕ) (t : Lexeme) (after : List ℕ) (r : Result (List Lexeme) ScanFault) → BeginsToken line t after → ComesTo after r → ComesTo line (with_token t r)
comes_after line t after (Ok ts) b c = record { rest = c.rest; begins = (after, b, c.begins); ended = c.ended }
comes_after line t after (Err f) b s = record { tokens = t ∷ s.tokens; rest = s.rest; begins = (after, b, s.begins); stopped = s.stopped }

comes_to_end : (line start : List ℕ) → without_blanks line ≡ start → IsEnd start → Cut line []
comes_to_end line start e ended = record { rest = line; begins = refl; ended = subst IsEnd (sym e) ended }

length-without_blanks : (line : List ℕ) → length (without_blanks line) ≤ length line
length-without_blanks line = omega (arith, length-drop (prefix_len is_blank line) line)

with_front_token : (start text after : List ℕ) (k : Kind) (others : List ℕ → Result (List Lexeme) ScanFault) → start ≡ text ++ after → IsToken k text after
    → with_front start (first_token start) others ≡ with_token (record { kind = k; text = text }) (others (without_blanks after))
with_front_token start text after k others bytes is =
    ap (λ x. with_front x (first_token x) others) bytes ∙ ap (λ r. with_front (text ++ after) r others) (token_read k text after is)
    ∙ ap (λ x. with_token (record { kind = k; text = x }) (others (without_blanks (drop (length text) (text ++ after))))) (take_at text after (length text) refl)
    ∙ ap (λ x. with_token (record { kind = k; text = text }) (others (without_blanks x))) (drop_at text after (length text) refl)

comes_within : (n : ℕ) (line start : List ℕ) → without_blanks line ≡ start → length start ≤ n → ComesTo line (scanned_within n start)
comes_within n line [] e small = comes_to_end line [] e tt
comes_within zero line (b ∷ more) e small = absurd (omega arith)
comes_within (suc n) line (b ∷ more) e small =
    let others : List ℕ → Result (List Lexeme) ScanFault = λ start. scanned_within n start in
    elim (cases_eq b 0x3B) [
      | inl comment ↦ subst (ComesTo line) (sym (cond-true (b == 0x3B) _ _ (eq-eqb b 0x3B comment))) (comes_to_end line (b ∷ more) e comment)
      | inr other ↦ subst (ComesTo line) (sym (cond-false (b == 0x3B) _ _ (ne_eqb b 0x3B other))) (elim (at_front b more other) as (λ _. ComesTo line (with_front (b ∷ more) (first_token (b ∷ more)) others)) [
        | token k text after bytes is ↦
            let shorter : length (without_blanks after) ≤ n = omega (arith, ap length bytes, length-append text after, token_some k text after is, length-without_blanks after) in
            subst (ComesTo line) (sym (with_front_token (b ∷ more) text after k others bytes is))
            (comes_after line (record { kind = k; text = text }) after (scanned_within n (without_blanks after)) (record { bytes_are = e ∙ bytes; token_is = is }) (comes_within n after (without_blanks after) refl shorter))
        | fault f is ↦ subst (ComesTo line) (sym (ap (λ r. with_front (b ∷ more) r others) (fault_read f (b ∷ more) is)))
            (record { tokens = []; rest = line; begins = refl; stopped = subst (λ x. BeginsFault f x) (sym e) is })
      ])
    ]

pub scans_stop : (line : List ℕ) (f : ScanFault) → length line ≤ 255 → HasScanFault line f → Scans line (Err f)
scans_stop line ScanFault.BadByte short s = (short, s)
scans_stop line ScanFault.OpenString short s = (short, s)
scans_stop line ScanFault.LineTooLong short s = absurd s.stopped
scans_stop line ScanFault.BadNumber short s = (short, s)
scans_stop line ScanFault.NoMemory short s = (short, s)

scans_by : (line : List ℕ) (r : Result (List Lexeme) ScanFault) → length line ≤ 255 → ComesTo line r → Scans line r
scans_by line (Ok ts) short c = (short, c)
scans_by line (Err f) short s = scans_stop line f short s

pub scans : (line : List ℕ) → Scans line (scanned line)
scans line =
    elim (cases_lt 255 (length line)) [
      | inl long ↦ subst (Scans line) (sym (cond-true (nat_lt 255 (length line)) _ _ (lt-ltb 255 (length line) long))) long
      | inr short ↦ subst (Scans line) (sym (cond-false (nat_lt 255 (length line)) _ _ (le-ltb 255 (length line) short)))
          (scans_by line _ short (comes_within (length line) line (without_blanks line) refl (length-without_blanks line)))
    ]

-- Tokens are slices, in order.

spans_from : (line after rest : List ℕ) (from : ℕ) (ts : List Lexeme) → after ≡ drop from line → BeginsTokens after ts rest → AreSpans line from ts
spans_from line after rest from [] at b = tt
spans_from line after rest from (t ∷ ts) at b =
    let offset = from + prefix_len is_blank after in
    let start : drop offset line ≡ t.text ++ b.0 = sym (drop-drop (prefix_len is_blank after) from line) ∙ ap (λ x. drop (prefix_len is_blank after) x) (sym at) ∙ b.1.bytes_are in
    let slice : take (length t.text) (drop offset line) ≡ t.text = ap (λ x. take (length t.text) x) start ∙ take_at t.text b.0 (length t.text) refl in
    let next : b.0 ≡ drop (offset + length t.text) line = sym (drop_at t.text b.0 (length t.text) refl) ∙ ap (λ x. drop (length t.text) x) (sym start) ∙ drop-drop (length t.text) offset line in
    let within : offset + length t.text ≤ length line = omega (arith, ap length start, length-append t.text b.0, length-drop offset line, token_some t.kind t.text b.0 b.1.token_is) in
    (offset, omega arith, within, slice, spans_from line b.0 rest (offset + length t.text) ts next b.2)

pub spans : (line rest : List ℕ) (tokens : List Lexeme) → BeginsTokens line tokens rest → AreSpans line 0 tokens
spans line rest tokens b = spans_from line line rest 0 tokens refl b

-- A walk by one more token.

pub one_more : (line rest : List ℕ) (ts : List Lexeme) (t : Lexeme) (after : List ℕ) → BeginsTokens line ts rest → BeginsToken rest t after → BeginsTokens line (ts ++ t ∷ []) after
one_more line rest [] t after b next = (after, subst (λ x. BeginsToken x t after) (sym b) next, refl)
one_more line rest (s ∷ ts) t after b next = (b.0, b.1, one_more b.0 rest ts t after b.2 next)

-- How the code finds the end of a line.

pub end_from_empty : (start : List ℕ) (empty : Bool) → empty ≡ (length start == 0) → empty ≡ true → IsEnd start
end_from_empty [] empty e f = tt
end_from_empty (b ∷ bs) empty e f = absurd (false≢true (sym (ne_eqb (length (b ∷ bs)) 0 (λ z. omega arith)) ∙ sym e ∙ f))

pub end_from_comment : (start : List ℕ) → slice_index start 0 ≡ 0x3B → IsEnd start
end_from_comment [] e = tt
end_from_comment (b ∷ bs) e = e

-- What the code reads at the front is what is there.

pub record IsRead (start : List ℕ) (k : Kind) (len : ℕ) : Type 0 where
  pub some : 0 < len
  pub within : len ≤ length start
  pub token_is : IsToken k (take len start) (drop len start)

pub token_at : (start : List ℕ) (k : Kind) (len : ℕ) (empty : Bool) → empty ≡ (length start == 0) → empty ≡ false → slice_index start 0 ≢ 0x3B → Ok (k, len) ≡ first_token start → IsRead start k len
token_at [] k len empty e some no_comment read = absurd (false≢true (sym some ∙ e))
token_at (b ∷ more) k len empty e some no_comment read =
    elim (at_front b more no_comment) [
      | token l text after bytes is ↦ let same = same_ok k l len (length text) (read ∙ ap first_token bytes ∙ token_read l text after is) in
          let front_is : take len (b ∷ more) ≡ text = ap (λ x. take len x) bytes ∙ take_at text after len (sym same.1) in
          let back_is : drop len (b ∷ more) ≡ after = ap (λ x. drop len x) bytes ∙ drop_at text after len (sym same.1) in
          record {
            some = omega (arith, same.1, token_some l text after is);
            within = omega (arith, same.1, ap length bytes, length-append text after);
            token_is = rw (front_is, back_is, same.0) is;
          }
      | fault f is ↦ let both : ◌≡◌ {A = Reading} (Ok (k, len)) (Err f) = read ∙ fault_read f (b ∷ more) is in absurd (cc)
    ]

pub fault_at : (start : List ℕ) (f : ScanFault) (empty : Bool) → empty ≡ (length start == 0) → empty ≡ false → slice_index start 0 ≢ 0x3B → Err f ≡ first_token start → BeginsFault f start
fault_at [] f empty e some no_comment read = absurd (false≢true (sym some ∙ e))
fault_at (b ∷ more) f empty e some no_comment read =
    elim (at_front b more no_comment) [
      | token l text after bytes is ↦ let both : ◌≡◌ {A = Reading} (Err f) (Ok (l, length text)) = read ∙ ap first_token bytes ∙ token_read l text after is in absurd (cc)
      | fault g is ↦ let both : ◌≡◌ {A = Reading} (Err f) (Err g) = read ∙ fault_read g (b ∷ more) is in
          let same : g ≡ f = cc in
          subst (λ x. BeginsFault x (b ∷ more)) same is
    ]

-- The code answers only the answer of the line.
pub only_answer : (line : List ℕ) (r : Result (Vec Token Global) ScanFault) → IfOk r (λ found. Scans line (Ok (lexemes found.items))) → IfErr r (λ why. why ≢ ScanFault.NoMemory → Scans line (Err why)) → (answer : Result (List Lexeme) ScanFault) → Scans line answer → (answered_tokens r ≡ answer) ⊎ (r ≡ Err ScanFault.NoMemory)
only_answer line (Ok found) ok err answer scans = inl (one_answer line (Ok (lexemes found.items)) answer ok scans)
only_answer line (Err ScanFault.NoMemory) ok err answer scans = inr refl
only_answer line (Err ScanFault.BadByte) ok err answer scans = inl (one_answer line (Err ScanFault.BadByte) answer (err (λ e. cc)) scans)
only_answer line (Err ScanFault.OpenString) ok err answer scans = inl (one_answer line (Err ScanFault.OpenString) answer (err (λ e. cc)) scans)
only_answer line (Err ScanFault.LineTooLong) ok err answer scans = inl (one_answer line (Err ScanFault.LineTooLong) answer (err (λ e. cc)) scans)
only_answer line (Err ScanFault.BadNumber) ok err answer scans = inl (one_answer line (Err ScanFault.BadNumber) answer (err (λ e. cc)) scans)

-- the token that was read is appended to those before it
pub push_token : (line rest start text after : List ℕ) (before now : List Token) (t : Token) (len : ℕ) → start ≡ without_blanks rest → text ≡ take len start → after ≡ drop len start → IsRead start t.kind len → t.text.now ≡ text → now ≡ before ++ t ∷ [] → BeginsTokens line (lexemes before) rest → BeginsTokens line (lexemes now) after
push_token line rest start text after before now t len start_is text_is after_is read same more b =
    let bytes : without_blanks rest ≡ t.text.now ++ after = sym start_is ∙ sym (take-append-drop len start) ∙ ap (λ x. x ++ drop len start) (sym (same ∙ text_is)) ∙ ap (λ x. t.text.now ++ x) (sym after_is) in
    let kind_is : IsToken t.kind t.text.now after = rw (same, text_is, after_is) read.token_is in
    let longer : lexemes now ≡ lexemes before ++ lexeme t ∷ [] = ap lexemes more ∙ map-append lexeme before (t ∷ []) in
    rw longer (one_more line rest (lexemes before) (lexeme t) after b (record { bytes_are = bytes; token_is = kind_is }))

-- Each token takes at least one byte, so there are no more tokens than bytes.

few_from : (line rest : List ℕ) (ts : List Lexeme) → BeginsTokens line ts rest → length ts ≤ length line
few_from line rest [] b = omega arith
few_from line rest (t ∷ ts) b = omega (arith, ap length b.1.bytes_are, length-append t.text b.0, length-without_blanks line, token_some t.kind t.text b.0 b.1.token_is, few_from b.0 rest ts b.2)

pub few : (line rest : List ℕ) (found : List Token) → BeginsTokens line (lexemes found) rest → length found ≤ length line
few line rest found b = rw (← length-map found lexeme) (few_from line rest (lexemes found) b)
