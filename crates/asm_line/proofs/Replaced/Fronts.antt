-- If the first tokens of a line are not replaced, the replaced line begins with these tokens.
use Rattle.std.proofs.Common.{◌≡◌, ◌<◌, ◌≤◌, ◌+◌, ◌∙◌, sym, ap, refl, subst, ℕ, Bool, true, false, List, [], ◌∷◌, ◌++◌, Result, Ok, Err, inl, inr, ◌==◌, append_assoc, arith, drop, length, length-append, length-drop}
use Rattle.std.specs.List.{prefix_len}
use Rattle.std.proofs.Math.Numerals.{one-add}
use Rattle.std.proofs.lemmas.Bool.{cases_Bool, cond-false, cond-true, false≢true, or_left}
use Rattle.std.proofs.lemmas.List.{take-append-drop}
use Rattle.std.proofs.lemmas.List.Sums.{take_while-cons}
use Rattle.asm_line.specs.declared.fault.ScanFault.{ScanFault}
use Rattle.asm_line.specs.declared.token.Kind.{Kind}
use Rattle.asm_line.specs.Classes.{begins_name, continues_name, is_blank}
use Rattle.asm_line.specs.Tokens.{BeginsWithout, IsToken, Lexeme}
use Rattle.asm_line.specs.Lines.{BeginsToken, BeginsTokens, Cut, Scans, HasScanFault, without_blanks}
use Rattle.asm_line.specs.Scanned.{scanned}
use Rattle.asm_line.proofs.Cuts.{one_answer, scans, scans_stop, token_some}
use Rattle.asm_line.specs.Single.{is_name, is_name_kind}
use Rattle.asm_line.specs.Replacing.Fronts.{AreLeft, Begins, IsLeft, NextIsLeft, goes_on}
use Rattle.asm_line.specs.Replacing.Pieces.{gap, after_first_token}
use Rattle.asm_line.specs.Replacing.Replaced.{ReplacementTable, replaced_tokens, swapped}
use Rattle.asm_line.proofs.Replaced.Lines.{after_token, kept}

-- Both lists begin with the same byte, or both are empty.
abbrev BeginAlike : List ℕ → List ℕ → Type 0
BeginAlike [] [] = Unit {0}
BeginAlike [] (b ∷ bs) = ⊥
BeginAlike (a ∷ more) [] = ⊥
BeginAlike (a ∷ more) (b ∷ bs) = a ≡ b

alike_front : (xs ys zs : List ℕ) → 0 < length xs → BeginAlike (xs ++ ys) (xs ++ zs)
alike_front [] ys zs h = absurd (omega (arith, h))
alike_front (x ∷ xs) ys zs h = refl

without_stays : (class : ℕ → Bool) (xs ys : List ℕ) → BeginAlike xs ys → BeginsWithout class xs → BeginsWithout class ys
without_stays class [] [] same w = tt
without_stays class [] (y ∷ ys) same w = absurd same
without_stays class (x ∷ xs) [] same w = tt
without_stays class (x ∷ xs) (y ∷ ys) same w = subst (λ b. class b ≡ false) same w

token_stays : (k : Kind) (text after now : List ℕ) → BeginAlike after now → IsToken k text after → IsToken k text now
token_stays Kind.Name text after now same t =
    (t.0, without_stays continues_name after now same t.1, λ af. without_stays (λ b. b == 0x27) after now same (t.2 af))
token_stays Kind.OtherAf text after now same t = t
token_stays (Kind.Number n) text after now same t = (t.0, without_stays _ after now same t.1, t.2)
token_stays Kind.Quoted text after now same t = record {
  quote = t.quote;
  content = t.content;
  quoted = t.quoted;
  plain = t.plain;
  text_is = t.text_is;
  ended = without_stays (λ b. b == t.quote) after now same t.ended;
}
token_stays (Kind.Mark m) text after now same t = t

-- Blanks at the beginning of a line.

unblank : (xs : List ℕ) → BeginsWithout is_blank xs → without_blanks xs ≡ xs
unblank [] w = refl
unblank (b ∷ bs) w = ap (λ n. drop n (b ∷ bs)) (cond-false (is_blank b) (1 + prefix_len is_blank bs) 0 w)

more_blank : (b : ℕ) (xs : List ℕ) → is_blank b ≡ true → without_blanks (b ∷ xs) ≡ without_blanks xs
more_blank b xs blank = ap (λ n. drop n (b ∷ xs)) (cond-true (is_blank b) (1 + prefix_len is_blank xs) 0 blank ∙ one-add (prefix_len is_blank xs))

not_blank : (line : List ℕ) → BeginsWithout is_blank (without_blanks line)
not_blank [] = tt
not_blank (b ∷ bs) =
    elim (cases_Bool (is_blank b)) [
      | inl blank ↦ subst (BeginsWithout is_blank) (sym (more_blank b bs blank)) (not_blank bs)
      | inr other ↦ subst (BeginsWithout is_blank) (sym (unblank (b ∷ bs) other)) other
    ]

skipped : (line rest : List ℕ) → BeginsWithout is_blank rest → without_blanks (gap line ++ rest) ≡ rest
skipped [] rest w = unblank rest w
skipped (b ∷ bs) rest w =
    elim (cases_Bool (is_blank b)) [
      | inl blank ↦ ap (λ g. without_blanks (g ++ rest)) (take_while-cons is_blank b bs ∙ cond-true (is_blank b) (b ∷ gap bs) [] blank) ∙ more_blank b (gap bs ++ rest) blank ∙ skipped bs rest w
      | inr other ↦ ap (λ g. without_blanks (g ++ rest)) (take_while-cons is_blank b bs ∙ cond-false (is_blank b) (b ∷ gap bs) [] other) ∙ unblank rest w
    ]

-- A line consists of the blanks before its first token, the token, and the rest.

pub whole_line : (line : List ℕ) (token : Lexeme) (after : List ℕ) → BeginsToken line token after → line ≡ (gap line ++ token.text) ++ after
whole_line line token after b = sym (take-append-drop (prefix_len is_blank line) line) ∙ ap (λ r. gap line ++ r) b.bytes_are ∙ sym (append_assoc (gap line) token.text after)

some_front : (line : List ℕ) (token : Lexeme) (after : List ℕ) → BeginsToken line token after → 0 < length (gap line ++ token.text)
some_front line token after b = omega (arith, length-append (gap line) token.text, token_some token.kind token.text after b.token_is)

-- the same token, followed by something else
token_before : (line : List ℕ) (token : Lexeme) (after now : List ℕ) → BeginsToken line token after → IsToken token.kind token.text now → BeginsToken ((gap line ++ token.text) ++ now) token now
token_before line token after now b is =
    let some = token_some token.kind token.text after b.token_is in
    let front : BeginsWithout is_blank (token.text ++ now) = without_stays is_blank (token.text ++ after) (token.text ++ now) (alike_front token.text after now some) (subst (BeginsWithout is_blank) b.bytes_are (not_blank line)) in
    record { bytes_are = ap without_blanks (append_assoc (gap line) token.text now) ∙ skipped line (token.text ++ now) front; token_is = is }

-- if the next token is not replaced, what is replaced from there on begins with the same byte
next_alike : (table : ReplacementTable) (rest : List ℕ) (token : Lexeme) (tokens : List Lexeme) (after : List ℕ) → BeginsToken rest token after → IsLeft table token → BeginAlike rest (replaced_tokens table rest (token ∷ tokens))
next_alike table rest token tokens after b left =
    let now = replaced_tokens table (after_first_token rest token) tokens in
    let text : (gap rest ++ token.text) ++ now ≡ replaced_tokens table rest (token ∷ tokens) = ap (λ t. (gap rest ++ t) ++ now) (sym (kept table token left)) in
    subst (λ xs. BeginAlike xs (replaced_tokens table rest (token ∷ tokens))) (sym (whole_line rest token after b))
    (subst (BeginAlike ((gap rest ++ token.text) ++ after)) text (alike_front (gap rest ++ token.text) after now (some_front rest token after b)))

-- Two names cannot follow each other without something between them.

no_touch : (text after : List ℕ) → IsToken Kind.Name text after → BeginsWithout continues_name (text ++ after) → ⊥
no_touch [] after t w = t.0
no_touch (b ∷ text) after t w = false≢true (sym w ∙ or_left (begins_name b) _ t.0.0)

name_alike : (table : ReplacementTable) (rest : List ℕ) (token : Lexeme) (tokens : List Lexeme) (after blanks : List ℕ) → BeginsToken rest token after → is_name token ≡ true → BeginsWithout continues_name rest → gap rest ≡ blanks
    → BeginAlike rest (replaced_tokens table rest (token ∷ tokens))
name_alike table rest token tokens after [] b named w none = absurd (no_touch token.text after (is_name_token token.kind token.text after named b.token_is) (subst (BeginsWithout continues_name) (whole_line rest token after b ∙ ap (λ g. (g ++ token.text) ++ after) none) w)) where
  is_name_token : (k : Kind) (text after : List ℕ) → is_name_kind k ≡ true → IsToken k text after → IsToken Kind.Name text after
  is_name_token Kind.Name text after named t = t
  is_name_token Kind.OtherAf text after named t = absurd (false≢true named)
  is_name_token (Kind.Number n) text after named t = absurd (false≢true named)
  is_name_token Kind.Quoted text after named t = absurd (false≢true named)
  is_name_token (Kind.Mark m) text after named t = absurd (false≢true named)
name_alike table rest token tokens after (g ∷ gs) b named w some =
    let now = replaced_tokens table (after_first_token rest token) tokens in
    let front : rest ≡ g ∷ ((gs ++ token.text) ++ after) = whole_line rest token after b ∙ ap (λ x. (x ++ token.text) ++ after) some in
    let also : replaced_tokens table rest (token ∷ tokens) ≡ g ∷ ((gs ++ swapped table token) ++ now) = ap (λ x. (x ++ swapped table token) ++ now) some in
    subst (λ xs. BeginAlike xs (replaced_tokens table rest (token ∷ tokens))) (sym front) (subst (BeginAlike (g ∷ ((gs ++ token.text) ++ after))) (sym also) refl)

-- The last of the tokens that are not replaced ends where it did.

name_stays : (table : ReplacementTable) (text rest end : List ℕ) (more : List Lexeme) → BeginsTokens rest more end → IsToken Kind.Name text rest → IsToken Kind.Name text (replaced_tokens table rest more)
name_stays table text rest end [] b t = t
name_stays table text rest end (token ∷ tokens) b t =
    elim (cases_Bool (is_name token)) [
      | inl named ↦ token_stays Kind.Name text rest (replaced_tokens table rest (token ∷ tokens)) (name_alike table rest token tokens b.0 (gap rest) b.1 named t.1 refl) t
      | inr other ↦ token_stays Kind.Name text rest (replaced_tokens table rest (token ∷ tokens)) (next_alike table rest token tokens b.0 b.1 (λ named. absurd (false≢true (sym other ∙ named)))) t
    ]

next_stays : (table : ReplacementTable) (k : Kind) (text rest end : List ℕ) (more : List Lexeme) → BeginsTokens rest more end → NextIsLeft table more → IsToken k text rest → IsToken k text (replaced_tokens table rest more)
next_stays table k text rest end [] b left t = t
next_stays table k text rest end (token ∷ tokens) b left t = token_stays k text rest (replaced_tokens table rest (token ∷ tokens)) (next_alike table rest token tokens b.0 b.1 left) t

last_stays : (table : ReplacementTable) (k : Kind) (text rest end : List ℕ) (more : List Lexeme) → BeginsTokens rest more end → (goes_on k ≡ true → NextIsLeft table more) → IsToken k text rest → IsToken k text (replaced_tokens table rest more)
last_stays table Kind.Name text rest end more b left t = name_stays table text rest end more b t
last_stays table Kind.OtherAf text rest end more b left t = t
last_stays table (Kind.Number n) text rest end more b left t = next_stays table (Kind.Number n) text rest end more b (left refl) t
last_stays table Kind.Quoted text rest end more b left t = next_stays table Kind.Quoted text rest end more b (left refl) t
last_stays table (Kind.Mark m) text rest end more b left t = t

-- What a line becomes from its first token on, if that token is not replaced.
one_left : (table : ReplacementTable) (line : List ℕ) (token : Lexeme) (tokens : List Lexeme) (after : List ℕ) → BeginsToken line token after → IsLeft table token
    → replaced_tokens table line (token ∷ tokens) ≡ (gap line ++ token.text) ++ replaced_tokens table after tokens
one_left table line token tokens after b left =
    ap (λ t. (gap line ++ t) ++ replaced_tokens table (after_first_token line token) tokens) (kept table token left) ∙ ap (λ l. (gap line ++ token.text) ++ replaced_tokens table l tokens) (after_token line token after b)

stays : (table : ReplacementTable) (line rest end : List ℕ) (front more : List Lexeme) → BeginsTokens line front rest → BeginsTokens rest more end → AreLeft table front more
    → BeginsTokens (replaced_tokens table line (front ++ more)) front (replaced_tokens table rest more)
stays table line rest end [] more b m left = ap (λ l. replaced_tokens table l more) b
stays table line rest end (token ∷ []) more b m left =
    let whole = one_left table line token more b.0 b.1 left.0 in
    let same : b.0 ≡ rest = b.2 in
    let is = last_stays table token.kind token.text rest end more m left.1 (subst (IsToken token.kind token.text) same b.1.token_is) in
    (replaced_tokens table rest more, subst (λ l. BeginsToken l token (replaced_tokens table rest more)) (sym (whole ∙ ap (λ l. (gap line ++ token.text) ++ replaced_tokens table l more) same)) (token_before line token b.0 (replaced_tokens table rest more) b.1 is), refl)
stays table line rest end (token ∷ other ∷ front) more b m left =
    let whole = one_left table line token (other ∷ front ++ more) b.0 b.1 left.0 in
    let now = replaced_tokens table b.0 (other ∷ front ++ more) in
    let is = token_stays token.kind token.text b.0 now (next_alike table b.0 other (front ++ more) b.2.0 b.2.1 (first_left table other front more left.1)) b.1.token_is in
    (now, subst (λ l. BeginsToken l token now) (sym whole) (token_before line token b.0 now b.1 is), stays table b.0 rest end (other ∷ front) more b.2 m left.1) where
      first_left : (table : ReplacementTable) (other : Lexeme) (front more : List Lexeme) → AreLeft table (other ∷ front) more → IsLeft table other
      first_left table other [] more left = left.0
      first_left table other (u ∷ us) more left = left.0

-- A line that begins with some tokens consists of these and of the rest, which begins with the others.

divided : (line end : List ℕ) (front more : List Lexeme) → BeginsTokens line (front ++ more) end → (rest : List ℕ) × BeginsTokens line front rest × BeginsTokens rest more end
divided line end [] more b = (line, refl, b)
divided line end (token ∷ front) more b = let next = divided b.0 end front more b.2 in (next.0, (b.0, b.1, next.1), next.2)

joined : (line rest end : List ℕ) (front more : List Lexeme) → BeginsTokens line front rest → BeginsTokens rest more end → BeginsTokens line (front ++ more) end
joined line rest end [] more b m = subst (λ l. BeginsTokens l more end) (sym b) m
joined line rest end (token ∷ front) more b m = (b.0, b.1, joined b.0 rest end front more b.2 m)

shorter : (line rest : List ℕ) (front : List Lexeme) → BeginsTokens line front rest → length rest ≤ length line
shorter line rest [] b = omega (arith, ap length b)
shorter line rest (token ∷ front) b =
    omega (arith, shorter b.0 rest front b.2, ap length b.1.bytes_are, length-append token.text b.0, length-drop (prefix_len is_blank line) line)

stops_of : (f : ScanFault) (rest : List ℕ) → Scans rest (Err f) → length rest ≤ 255 → HasScanFault rest f
stops_of ScanFault.BadByte rest s short = s.1
stops_of ScanFault.OpenString rest s short = s.1
stops_of ScanFault.LineTooLong rest s short = absurd (omega (arith, s, short))
stops_of ScanFault.BadNumber rest s short = s.1
stops_of ScanFault.NoMemory rest s short = s.1

begins_by : (line rest : List ℕ) (front : List Lexeme) → BeginsTokens line front rest → (a r : Result (List Lexeme) ScanFault) → Scans line a → Scans rest r → Begins front a
begins_by line rest front b (Err f) r s t = tt
begins_by line rest front b (Ok tokens) (Ok others) s t =
    let both = one_answer line (Ok tokens) (Ok (front ++ others)) s (s.0, record { rest = t.1.rest; begins = joined line rest t.1.rest front others b t.1.begins; ended = t.1.ended }) in
    (others, same_ok tokens (front ++ others) both) where
      same_ok : (xs ys : List Lexeme) → ◌≡◌ {A = Result (List Lexeme) ScanFault} (Ok xs) (Ok ys) → xs ≡ ys
      same_ok xs ys e = cc
begins_by line rest front b (Ok tokens) (Err f) s t =
    let stop = stops_of f rest t (omega (arith, s.0, shorter line rest front b)) in
    let both = one_answer line (Ok tokens) (Err f) s (scans_stop line f s.0 (record { tokens = front ++ stop.tokens; rest = stop.rest; begins = joined line rest stop.rest front stop.tokens b stop.begins; stopped = stop.stopped })) in
    absurd (no_fault tokens f both) where
      no_fault : (xs : List Lexeme) (f : ScanFault) → ◌≡◌ {A = Result (List Lexeme) ScanFault} (Ok xs) (Err f) → ⊥
      no_fault xs f e = cc

pub front_stays : (table : ReplacementTable) (line : List ℕ) (front more : List Lexeme) → Cut line (front ++ more) → AreLeft table front more → Begins front (scanned (replaced_tokens table line (front ++ more)))
front_stays table line front more cut left =
    let parts = divided line cut.rest front more cut.begins in
    let now = replaced_tokens table line (front ++ more) in
    begins_by now (replaced_tokens table parts.0 more) front (stays table line parts.0 cut.rest front more parts.1 parts.2 left) (scanned now) (scanned (replaced_tokens table parts.0 more)) (scans now) (scans (replaced_tokens table parts.0 more))
