-- Lists, element by element.
use Rattle.std.proofs.Common.{◌≡◌, ◌≤◌, ◌<◌, ◌+◌, ◌==◌, ℕ, zero, suc, inl, inr, Bool, true, false, List, [], ◌∷◌, ◌++◌, length, map, drop, get_or, cond, refl, ap, sym, ◌∙◌, append_assoc, length-append, arith}
use Rattle.std.specs.List.{list_any}
use Rattle.std.specs.Prelude.{if◌then◌else◌}
use Rattle.std.proofs.lemmas.List.{at_drop_more, drop_all, length-drop, append-nil}
use Rattle.std.proofs.lemmas.Bool.{cases_Bool, eqb-true, eq-eqb}
use Rattle.asm_line.specs.Tokens.{doubled}
use Rattle.asm_spell.specs.Directives.{content, undoubled}

-- Whether one of the elements that are left passes a test.

pub passes_here : {A B : Type 0} (p : B → Bool) (f : A → B) (xs : List A) (k : ℕ) (d : A) → k < length xs → p (f (get_or xs k d)) ≡ true → list_any p (map f (drop k xs)) ≡ true
passes_here p f xs k d h e = at_drop_more (λ ys. list_any p (map f ys)) xs k d h ∙ rw e refl

pub passes_later : {A B : Type 0} (p : B → Bool) (f : A → B) (xs : List A) (k : ℕ) (d : A) → k < length xs → p (f (get_or xs k d)) ≡ false → list_any p (map f (drop k xs)) ≡ list_any p (map f (drop (k + 1) xs))
passes_later p f xs k d h e = at_drop_more (λ ys. list_any p (map f ys)) xs k d h ∙ rw e refl

pub none_left : {A B : Type 0} (p : B → Bool) (f : A → B) (xs : List A) (k : ℕ) → length xs ≤ k → list_any p (map f (drop k xs)) ≡ false
none_left p f xs k h = rw (drop_all k xs h) refl

-- The content of a string.

pub content_begun : (text : List ℕ) → content text ≡ undoubled (get_or text 0 0) (drop 1 text)
content_begun [] = refl
content_begun (q ∷ more) = refl

two_left : (q : ℕ) (text : List ℕ) (k : ℕ) → k + 1 < length text
    → undoubled q (drop k text) ≡ cond (get_or text k 0 == q) (get_or text k 0 ∷ undoubled q (drop (k + 2) text)) (get_or text k 0 ∷ undoubled q (drop (k + 1) text))
two_left q [] k h = absurd (omega arith)
two_left q (a ∷ []) k h = absurd (omega arith)
two_left q (a ∷ b ∷ more) zero h = refl
two_left q (a ∷ b ∷ more) (suc k) h =
    let two : suc k + 2 ≡ suc (k + 2) = omega arith in
    let one : suc k + 1 ≡ suc (k + 1) = omega arith in
    rw (two, one) (two_left q (b ∷ more) k (omega arith))

-- one more byte of the content is written
pub content_goes_on : (q : ℕ) (text before now whole : List ℕ) (k b : ℕ) → k + 1 < length text → b ≡ get_or text k 0 → now ≡ before ++ b ∷ []
    → whole ≡ before ++ undoubled q (drop k text) → whole ≡ now ++ undoubled q (drop (k + cond (b == q) 2 1) text)
content_goes_on q text before now whole k b h is e w =
    let here : undoubled q (drop k text) ≡ cond (b == q) (b ∷ undoubled q (drop (k + 2) text)) (b ∷ undoubled q (drop (k + 1) text)) = rw is (two_left q text k h) in
    w ∙ ap (λ xs. before ++ xs) here ∙ rw e (elim (b == q) as (λ t. before ++ cond t (b ∷ undoubled q (drop (k + 2) text)) (b ∷ undoubled q (drop (k + 1) text)) ≡ (before ++ b ∷ []) ++ undoubled q (drop (k + cond t 2 1) text)) [
      | true ↦ sym (append_assoc before (b ∷ []) (undoubled q (drop (k + 2) text)))
      | false ↦ sym (append_assoc before (b ∷ []) (undoubled q (drop (k + 1) text)))
    ])

nothing_left : (q : ℕ) (xs : List ℕ) → length xs ≤ 1 → undoubled q xs ≡ []
nothing_left q [] h = refl
nothing_left q (b ∷ []) h = refl
nothing_left q (b ∷ c ∷ more) h = absurd (omega arith)

pub content_written : (q : ℕ) (text bytes whole : List ℕ) (k : ℕ) → length text ≤ k + 1 → whole ≡ bytes ++ undoubled q (drop k text) → bytes ≡ whole
content_written q text bytes whole k h w = sym (w ∙ ap (λ xs. bytes ++ xs) (nothing_left q (drop k text) (omega (arith, length-drop k text))) ∙ append-nil bytes)

-- The content of a string is what is between its quotes, with quotes doubled.

once_more : (q c : ℕ) (rest : List ℕ) → 1 ≤ length rest → undoubled q ((if c == q then q ∷ q ∷ [] else c ∷ []) ++ rest) ≡ c ∷ undoubled q rest
once_more q c [] h = absurd (omega arith)
once_more q c (r ∷ rest) h = elim (cases_Bool (c == q)) as (λ _. undoubled q ((if c == q then q ∷ q ∷ [] else c ∷ []) ++ r ∷ rest) ≡ c ∷ undoubled q (r ∷ rest)) [
  | inl same ↦ let e : c ≡ q = eqb-true c q same in rw (same, eq-eqb q q refl, e) refl
  | inr other ↦ rw (other, other) refl
]

pub content_is : (q : ℕ) (bytes : List ℕ) → content (q ∷ doubled q bytes ++ q ∷ []) ≡ bytes
content_is q [] = refl
content_is q (c ∷ cs) =
    ap (undoubled q) (append_assoc (if c == q then q ∷ q ∷ [] else c ∷ []) (doubled q cs) (q ∷ []))
    ∙ once_more q c (doubled q cs ++ q ∷ []) (omega (arith, length-append (doubled q cs) (q ∷ [])))
    ∙ ap (λ xs. c ∷ xs) (content_is q cs)
