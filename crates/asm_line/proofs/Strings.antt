-- Where a string ends, byte by byte.
use Rattle.std.proofs.Common.{◌≡◌, ℕ, ◌+◌, ◌<◌, List, [], ◌∷◌, ◌++◌, Bool, true, false, ◌==◌, Result, Ok, Err, cond, refl, sym, subst, ◌∙◌, ap, drop, get_or, length, arith, ◌⊎◌, inl, inr}
use Rattle.std.proofs.lemmas.Bool.{cond-true, cond-false, eq-eqb, ne_eqb, eqb-true, cases_Bool}
use Rattle.std.proofs.lemmas.List.{drop_more}
use Rattle.std.proofs.lemmas.List.Elements.{All-nil, All-cons, All-head, All-tail}
use Rattle.asm_line.specs.Types.{ScanFault}
use Rattle.asm_line.specs.Classes.{is_control}
use Rattle.asm_line.specs.Tokens.{BeginsWithout, HasNoControlByte, doubled}
use Rattle.asm_line.specs.Private.Reading.{string_len, longer_by}

pub len_at_end : (q : ℕ) (more : List ℕ) → BeginsWithout (λ c. c == q) more → string_len q (q ∷ more) ≡ Ok 1
len_at_end q [] ended = cond-true (q == q) (Ok 1) _ (eq-eqb q q refl)
len_at_end q (c ∷ more) ended = cond-true (q == q) (cond (c == q) (longer_by 2 (string_len q more)) (Ok 1)) _ (eq-eqb q q refl) ∙ cond-false (c == q) _ (Ok 1) ended

pub len_at_pair : (q : ℕ) (more : List ℕ) → string_len q (q ∷ q ∷ more) ≡ longer_by 2 (string_len q more)
len_at_pair q more = cond-true (q == q) (cond (q == q) (longer_by 2 (string_len q more)) (Ok 1)) _ (eq-eqb q q refl) ∙ cond-true (q == q) _ (Ok 1) (eq-eqb q q refl)

pub len_at_control : (q b : ℕ) (more : List ℕ) → (b == q) ≡ false → is_control b ≡ true → string_len q (b ∷ more) ≡ Err ScanFault.BadByte
len_at_control q b [] other control = cond-false (b == q) (Ok 1) _ other ∙ cond-true (is_control b) (Err ScanFault.BadByte) _ control
len_at_control q b (c ∷ more) other control = cond-false (b == q) _ _ other ∙ cond-true (is_control b) (Err ScanFault.BadByte) _ control

pub len_at_plain : (q b : ℕ) (more : List ℕ) → (b == q) ≡ false → is_control b ≡ false → string_len q (b ∷ more) ≡ longer_by 1 (string_len q more)
len_at_plain q b [] other plain = cond-false (b == q) (Ok 1) _ other ∙ cond-false (is_control b) (Err ScanFault.BadByte) _ plain
len_at_plain q b (c ∷ more) other plain = cond-false (b == q) _ _ other ∙ cond-false (is_control b) (Err ScanFault.BadByte) _ plain

longer_by_both : (m n : ℕ) (r : Result ℕ ScanFault) → longer_by m (longer_by n r) ≡ longer_by (m + n) r
longer_by_both m n (Ok len) = let e : m + (n + len) ≡ m + n + len = omega arith in ap (λ k. Ok k) e
longer_by_both m n (Err fault) = refl

-- a string may contain this byte
abbrev pub IsPlain : ℕ → Type 0
IsPlain c = is_control c ≡ false

module _ (q : ℕ) (bs : List ℕ) (i : ℕ) (same : string_len q bs ≡ longer_by i (string_len q (drop i bs))) where
  pub past_plain : i < length bs → (get_or bs i 0 ≡ q → ⊥) → is_control (get_or bs i 0) ≡ false → string_len q bs ≡ longer_by (i + 1) (string_len q (drop (i + 1) bs))
  past_plain lt other plain =
      let step = ap (λ x. string_len q x) (drop_more bs i 0 lt) ∙ len_at_plain q (get_or bs i 0) (drop (i + 1) bs) (ne_eqb (get_or bs i 0) q other) plain in
      same ∙ ap (λ r. longer_by i r) step ∙ longer_by_both i 1 _

  pub past_pair : i + 1 < length bs → get_or bs i 0 ≡ q → get_or bs (i + 1) 0 ≡ q → string_len q bs ≡ longer_by (i + 2) (string_len q (drop (i + 2) bs))
  past_pair lt first second =
      let after : i + 1 + 1 ≡ i + 2 = omega arith in
      let pair : drop i bs ≡ q ∷ q ∷ drop (i + 2) bs = drop_more bs i 0 (omega arith) ∙ ap (λ x. x ∷ drop (i + 1) bs) first ∙ ap (λ x. q ∷ x) (drop_more bs (i + 1) 0 lt ∙ ap (λ x. x ∷ drop (i + 1 + 1) bs) second ∙ ap (λ n. q ∷ drop n bs) after) in
      same ∙ ap (λ r. longer_by i r) (ap (λ x. string_len q x) pair ∙ len_at_pair q (drop (i + 2) bs)) ∙ longer_by_both i 2 _

  pub at_control : i < length bs → (get_or bs i 0 ≡ q → ⊥) → is_control (get_or bs i 0) ≡ true → Err ScanFault.BadByte ≡ string_len q bs
  at_control lt other control = sym (same ∙ ap (λ r. longer_by i r) (ap (λ x. string_len q x) (drop_more bs i 0 lt) ∙ len_at_control q (get_or bs i 0) (drop (i + 1) bs) (ne_eqb (get_or bs i 0) q other) control))

-- the length of the content, and then of what is left
len_after_one : (q c : ℕ) (ds rest : List ℕ) (v : Bool) → (c == q) ≡ v → is_control c ≡ false → string_len q (ds ++ rest) ≡ longer_by (length ds) (string_len q rest) → string_len q ((cond v (q ∷ q ∷ []) (c ∷ []) ++ ds) ++ rest) ≡ longer_by (length (cond v (q ∷ q ∷ []) (c ∷ []) ++ ds)) (string_len q rest)
len_after_one q c ds rest true e plain more =
    let size : 2 + length ds ≡ length (q ∷ q ∷ ds) = omega arith in
    len_at_pair q (ds ++ rest) ∙ ap (λ r. longer_by 2 r) more ∙ longer_by_both 2 (length ds) _ ∙ ap (λ n. longer_by n (string_len q rest)) size
len_after_one q c ds rest false e plain more =
    let size : 1 + length ds ≡ length (c ∷ ds) = omega arith in
    len_at_plain q c (ds ++ rest) e plain ∙ ap (λ r. longer_by 1 r) more ∙ longer_by_both 1 (length ds) _ ∙ ap (λ n. longer_by n (string_len q rest)) size

longer_by_none : (r : Result ℕ ScanFault) → r ≡ longer_by 0 r
longer_by_none (Ok len) = let e : len ≡ 0 + len = omega arith in ap (λ k. Ok k) e
longer_by_none (Err fault) = refl

pub len_after : (q : ℕ) (content rest : List ℕ) → HasNoControlByte content → string_len q (doubled q content ++ rest) ≡ longer_by (length (doubled q content)) (string_len q rest)
len_after q [] rest plain = longer_by_none (string_len q rest)
len_after q (c ∷ cs) rest plain = len_after_one q c (doubled q cs) rest (c == q) refl (All-head IsPlain c cs plain) (len_after q cs rest (All-tail IsPlain c cs plain))

-- What ends the content of a string: the end of the line, a quote that is not doubled, or a control byte.
abbrev pub EndsContent : ℕ → List ℕ → Type 0
EndsContent q [] = Unit {0}
EndsContent q (b ∷ after) = ((b ≡ q) × BeginsWithout (λ c. c == q) after) ⊎ (((b == q) ≡ false) × (is_control b ≡ true))

pub record Divides (q : ℕ) (bs : List ℕ) : Type 0 where
  pub content : List ℕ
  pub rest : List ℕ
  pub plain : HasNoControlByte content
  pub bytes : bs ≡ doubled q content ++ rest
  pub ended : EndsContent q rest

divides_plain : (q b : ℕ) (bs : List ℕ) → (b == q) ≡ false → is_control b ≡ false → Divides q bs → Divides q (b ∷ bs)
divides_plain q b bs other plain d = record {
  content = b ∷ d.content;
  rest = d.rest;
  plain = All-cons IsPlain b d.content plain d.plain;
  bytes = ap (λ x. b ∷ x) d.bytes ∙ ap (λ (x : List ℕ). (x ++ doubled q d.content) ++ d.rest) (sym (cond-false (b == q) (q ∷ q ∷ []) (b ∷ []) other));
  ended = d.ended;
}

divides_pair : (q : ℕ) (bs : List ℕ) → is_control q ≡ false → Divides q bs → Divides q (q ∷ q ∷ bs)
divides_pair q bs plain d = record {
  content = q ∷ d.content;
  rest = d.rest;
  plain = All-cons IsPlain q d.content plain d.plain;
  bytes = ap (λ x. q ∷ q ∷ x) d.bytes ∙ ap (λ (x : List ℕ). (x ++ doubled q d.content) ++ d.rest) (sym (cond-true (q == q) (q ∷ q ∷ []) (q ∷ []) (eq-eqb q q refl)));
  ended = d.ended;
}

-- the content is empty
divides_none : (q : ℕ) (bs : List ℕ) → EndsContent q bs → Divides q bs
divides_none q bs ended = record { content = []; rest = bs; plain = All-nil IsPlain; bytes = refl; ended = ended }

pub divides : (q : ℕ) (bs : List ℕ) → is_control q ≡ false → Divides q bs
divides q [] plain = divides_none q [] tt
divides q (b ∷ []) plain =
    elim (cases_Bool (b == q)) [
      | inl same ↦ divides_none q (b ∷ []) (inl (eqb-true b q same, tt))
      | inr other ↦ elim (cases_Bool (is_control b)) [
        | inl control ↦ divides_none q (b ∷ []) (inr (other, control))
        | inr none ↦ divides_plain q b [] other none (divides_none q [] tt)
      ]
    ]
divides q (b ∷ c ∷ more) plain =
    elim (cases_Bool (b == q)) [
      | inl same ↦ elim (cases_Bool (c == q)) [
        | inl twice ↦ subst (λ x. Divides q (x ∷ c ∷ more)) (sym (eqb-true b q same)) (subst (λ x. Divides q (q ∷ x ∷ more)) (sym (eqb-true c q twice)) (divides_pair q more plain (divides q more plain)))
        | inr once ↦ divides_none q (b ∷ c ∷ more) (inl (eqb-true b q same, once))
      ]
      | inr other ↦ elim (cases_Bool (is_control b)) [
        | inl control ↦ divides_none q (b ∷ c ∷ more) (inr (other, control))
        | inr none ↦ divides_plain q b (c ∷ more) other none (divides q (c ∷ more) plain)
      ]
    ]
