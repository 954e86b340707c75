-- The pieces are those that commas outside of parentheses separate, and no others.
use Rattle.std.proofs.Common.{◌≡◌, ◌≢◌, ◌↔◌, ℕ, ◌==◌, ◌&&◌, Bool, true, false, inl, inr, List, [], ◌∷◌, ◌++◌, cond, refl, sym, ap, ◌∙◌}
use Rattle.std.proofs.lemmas.Bool.{and_parts, cases_Bool, eqb-true, eq-eqb}
use Rattle.asm_line.specs.Tokens.{Lexeme}
use Rattle.asm_line.specs.Commas.{open_behind}
use Rattle.asm_line.specs.Single.{is_comma}
use Rattle.asm_spell.specs.Operands.{closed_by_last, pieces, with_first}
use Rattle.asm_spell.specs.Cuts.{AreCut, IsClosed, IsUncut, open_after}

no_split : (front : List Lexeme) (t : Lexeme) (back : List Lexeme) → [] ≡ front ++ t ∷ back → ⊥
no_split [] t back e = cc
no_split (u ∷ front) t back e = cc

-- whether a token is a comma that separates
abbrev cuts : ℕ → Lexeme → Bool
cuts depth t = (depth == 0) && is_comma t

-- A piece without a separating comma, with one more token before it.
uncut_more : (depth : ℕ) (t : Lexeme) (ts : List Lexeme) → cuts depth t ≡ false → IsUncut (open_behind depth t.kind) ts → IsUncut depth (t ∷ ts)
uncut_more depth t ts other uncut [] comma back e is zero_open =
    let same : t ≡ comma = cc in
    let here : is_comma t ≡ true = ap (λ u. is_comma u) same ∙ is in
    let both : cuts depth t ≡ true = rw (eq-eqb depth 0 zero_open, here) refl in
    let bad : true ≡ false = sym both ∙ other in
    cc
uncut_more depth t ts other uncut (u ∷ front) comma back e is zero_open =
    let same : t ≡ u = cc in
    let rest : ts ≡ front ++ comma ∷ back = cc in
    uncut front comma back rest is (ap (λ v. open_after (open_behind depth v.kind) front) same ∙ zero_open)

-- The same with one token less.
uncut_rest : (depth : ℕ) (t : Lexeme) (ts : List Lexeme) → IsUncut depth (t ∷ ts) → IsUncut (open_behind depth t.kind) ts
uncut_rest depth t ts uncut front comma back e is = uncut (t ∷ front) comma back (ap (λ xs. t ∷ xs) e) is

uncut_first : (depth : ℕ) (t : Lexeme) (ts : List Lexeme) → IsUncut depth (t ∷ ts) → cuts depth t ≡ false
uncut_first depth t ts uncut = elim (cases_Bool (cuts depth t)) as (λ _. cuts depth t ≡ false) [
  | inl both ↦ let parts = and_parts (depth == 0) (is_comma t) both in absurd (uncut [] t ts refl parts.1 (eqb-true depth 0 parts.0))
  | inr other ↦ other
]

put_first : (depth : ℕ) (t : Lexeme) (ts : List Lexeme) (ps : List (List Lexeme)) → cuts depth t ≡ false → AreCut (open_behind depth t.kind) ts ps → AreCut depth (t ∷ ts) (with_first t ps)
put_first depth t ts [] other cut = absurd cut
put_first depth t ts (p ∷ []) other cut = (ap (λ xs. t ∷ xs) cut.0, uncut_more depth t p other cut.1)
put_first depth t ts (p ∷ q ∷ ps) other cut = (cut.0, cut.1, ap (λ xs. t ∷ xs) cut.2, cut.3, cut.4, uncut_more depth t p other cut.5, cut.6)

cut_here : (depth : ℕ) (t : Lexeme) (ts : List Lexeme) (ps : List (List Lexeme)) → cuts depth t ≡ true → AreCut 0 ts ps → AreCut depth (t ∷ ts) ([] ∷ ps)
cut_here depth t ts [] both cut = absurd cut
cut_here depth t ts (p ∷ ps) both cut =
    let parts = and_parts (depth == 0) (is_comma t) both in
    (t, ts, refl, parts.1, eqb-true depth 0 parts.0, (λ front comma back e is. absurd (no_split front comma back e)), cut)

either_cut : (depth : ℕ) (t : Lexeme) (ts : List Lexeme) (b : Bool) (ps qs : List (List Lexeme)) → (b ≡ true → AreCut depth (t ∷ ts) ps) → (b ≡ false → AreCut depth (t ∷ ts) qs) → AreCut depth (t ∷ ts) (cond b ps qs)
either_cut depth t ts true ps qs p q = p refl
either_cut depth t ts false ps qs p q = q refl

pub are_cut : (depth : ℕ) (ts : List Lexeme) → AreCut depth ts (pieces depth ts)
are_cut depth [] = (refl, λ front comma back e is. absurd (no_split front comma back e))
are_cut depth (t ∷ ts) = either_cut depth t ts (cuts depth t) ([] ∷ pieces 0 ts) (with_first t (pieces (open_behind depth t.kind) ts))
    (λ both. cut_here depth t ts (pieces 0 ts) both (are_cut 0 ts))
    (λ other. put_first depth t ts (pieces (open_behind depth t.kind) ts) other (are_cut (open_behind depth t.kind) ts))

-- There are no other pieces.
one_piece : (depth : ℕ) (p : List Lexeme) → IsUncut depth p → pieces depth p ≡ p ∷ []
one_piece depth [] uncut = refl
one_piece depth (t ∷ p) uncut = rw (uncut_first depth t p uncut) (ap (with_first t) (one_piece (open_behind depth t.kind) p (uncut_rest depth t p uncut)))

first_piece : (depth : ℕ) (p : List Lexeme) (comma : Lexeme) (rest : List Lexeme) → IsUncut depth p → is_comma comma ≡ true → open_after depth p ≡ 0 → pieces depth (p ++ comma ∷ rest) ≡ p ∷ pieces 0 rest
first_piece depth [] comma rest uncut is none = rw (eq-eqb depth 0 none, is) refl
first_piece depth (t ∷ p) comma rest uncut is none =
    rw (uncut_first depth t p uncut) (ap (with_first t) (first_piece (open_behind depth t.kind) p comma rest (uncut_rest depth t p uncut) is none))

pub cut_once : (depth : ℕ) (ts : List Lexeme) (ps : List (List Lexeme)) → AreCut depth ts ps → ps ≡ pieces depth ts
cut_once depth ts [] cut = absurd cut
cut_once depth ts (p ∷ []) cut = sym (ap (pieces depth) cut.0 ∙ one_piece depth p cut.1)
cut_once depth ts (p ∷ q ∷ ps) cut =
    ap (λ others. p ∷ others) (cut_once 0 cut.1 (q ∷ ps) cut.6) ∙ sym (ap (pieces depth) cut.2 ∙ first_piece depth p cut.0 cut.1 cut.5 cut.3 cut.4)

-- The partner of a parenthesis.
closes : (depth : ℕ) (t : Lexeme) → (open_behind depth t.kind == 0) ≡ true → open_behind depth t.kind ≡ 0
closes depth t e = eqb-true (open_behind depth t.kind) 0 e

closed_told : (depth : ℕ) (ts : List Lexeme) → closed_by_last depth ts ≡ true → IsClosed depth ts
closed_told depth [] e = absurd cc
closed_told depth (t ∷ []) e = elim (cases_Bool (open_behind depth t.kind == 0)) as (λ _. IsClosed depth (t ∷ [])) [
  | inl here ↦ record { some = λ none. cc; closed = closes depth t here; not_before = λ front u more some is. absurd (no_front front u more some is) }
  | inr other ↦ let bad : false ≡ true = rw other at e in absurd cc
]
  where
    no_front : (front : List Lexeme) (u : Lexeme) (more : List Lexeme) → front ≢ [] → t ∷ [] ≡ front ++ u ∷ more → ⊥
    no_front [] u more some is = some refl
    no_front (v ∷ front) u more some is = let rest : [] ≡ front ++ u ∷ more = cc in no_split front u more rest
closed_told depth (t ∷ u ∷ ts) e = elim (cases_Bool (open_behind depth t.kind == 0)) as (λ _. IsClosed depth (t ∷ u ∷ ts)) [
  | inl here ↦ let bad : false ≡ true = rw here at e in absurd cc
  | inr other ↦
      let later : closed_by_last (open_behind depth t.kind) (u ∷ ts) ≡ true = rw other at e in
      let c = closed_told (open_behind depth t.kind) (u ∷ ts) later in
      record { some = λ none. cc; closed = c.closed; not_before = λ front v more some is. before c other front v more some is }
]
  where
    before : IsClosed (open_behind depth t.kind) (u ∷ ts) → (open_behind depth t.kind == 0) ≡ false → (front : List Lexeme) (v : Lexeme) (more : List Lexeme) → front ≢ [] → t ∷ u ∷ ts ≡ front ++ v ∷ more → open_after depth front ≢ 0
    before c other [] v more some is zero_open = some refl
    before c other (w ∷ []) v more some is zero_open =
        let same : t ≡ w = cc in
        let none : open_behind depth t.kind ≡ 0 = ap (λ x. open_behind depth x.kind) same ∙ zero_open in
        let bad : true ≡ false = sym (eq-eqb (open_behind depth t.kind) 0 none) ∙ other in
        cc
    before c other (w ∷ x ∷ front) v more some is zero_open =
        let same : t ≡ w = cc in
        let rest : u ∷ ts ≡ x ∷ front ++ v ∷ more = cc in
        c.not_before (x ∷ front) v more (λ none. cc) rest (ap (λ y. open_after (open_behind depth y.kind) (x ∷ front)) same ∙ zero_open)

closed_tests : (depth : ℕ) (ts : List Lexeme) → IsClosed depth ts → closed_by_last depth ts ≡ true
closed_tests depth [] c = absurd (c.some refl)
closed_tests depth (t ∷ []) c = rw (eq-eqb (open_behind depth t.kind) 0 c.closed) refl
closed_tests depth (t ∷ u ∷ ts) c =
    let other : (open_behind depth t.kind == 0) ≡ false = elim (cases_Bool (open_behind depth t.kind == 0)) as (λ _. (open_behind depth t.kind == 0) ≡ false) [
      | inl here ↦ absurd (c.not_before (t ∷ []) u ts (λ none. cc) refl (closes depth t here))
      | inr other ↦ other
    ] in
    rw other (closed_tests (open_behind depth t.kind) (u ∷ ts) (record {
      some = λ none. cc;
      closed = c.closed;
      not_before = λ front v more some is. c.not_before (t ∷ front) v more (λ none. cc) (ap (λ xs. t ∷ xs) is);
    }))

pub closed_is : (depth : ℕ) (ts : List Lexeme) → (closed_by_last depth ts ≡ true) ↔ IsClosed depth ts
closed_is depth ts = (closed_told depth ts, closed_tests depth ts)
