-- Frames and where they begin.
use Rattle.std.proofs.Common.{rules, ◌≡◌, ◌<◌, ◌≤◌, ◌-◌, ◌+◌, ◌∙◌, sym, ap, refl, inl, inr, ℕ, zero, suc, min, List, [], ◌∷◌, ◌++◌, length, reverse, drop, arith, get_or}
use Rattle.std.specs.Prelude.{slice_set as set}
use Rattle.std.proofs.lemmas.Bool.{cases_lt, le-leb, lt-leb}
use Rattle.std.proofs.lemmas.List.{reverse-append, length-reverse, drop-append-le, set-get_or}
use Rattle.asm_names.specs.declared.walk.Frame.{Frame}
use Rattle.asm_names.specs.Private.Standing.{AreFrames, low_of, lowered, starts}

set_end : {A : Type 0} (xs : List A) (n : ℕ) (y : A) → length xs ≡ suc n → reverse (set xs n y) ≡ y ∷ drop 1 (reverse xs)
set_end [] n y is = absurd (omega (arith, is))
set_end (x ∷ []) zero y is = refl
set_end (x ∷ []) (suc n) y is = absurd (omega (arith, is))
set_end (x ∷ z ∷ more) zero y is = absurd (omega (arith, is))
set_end (x ∷ z ∷ more) (suc n) y is =
    reverse-append (x ∷ []) (set (z ∷ more) n y)
    ∙ ap (λ zs. zs ++ x ∷ []) (set_end (z ∷ more) n y (omega (arith, is)))
    ∙ ap (λ zs. y ∷ zs) (sym (drop-append-le 1 (reverse (z ∷ more)) (x ∷ []) (omega (arith, length-reverse (z ∷ more)))))
    ∙ ap (λ zs. y ∷ drop 1 zs) (sym (reverse-append (x ∷ []) (z ∷ more)))

-- a list, read from its end, after its last element was set
pub set_last : {A : Type 0} (xs : List A) (y : A) → 0 < length xs → reverse (set xs (length xs - 1) y) ≡ y ∷ drop 1 (reverse xs)
set_last xs y lt = set_end xs (length xs - 1) y (omega arith)

pub last_first : {A : Type 0} (xs : List A) (d : A) → 0 < length xs → reverse xs ≡ get_or xs (length xs - 1) d ∷ drop 1 (reverse xs)
last_first xs d lt = ap reverse (sym (set-get_or xs (length xs - 1) d)) ∙ set_last xs (get_or xs (length xs - 1) d) lt

pub low_le : (frames : List Frame) (end p : ℕ) → AreFrames frames end → p < end → low_of frames p ≤ p
low_le [] end p are lt = absurd (omega (arith, are))
low_le (f ∷ fs) end p are lt =
    elim (cases_lt p f.start) [
      | inl below ↦ rw (lt-leb f.start p below) (low_le fs f.start p are.2 below)
      | inr inside ↦ rw (le-leb f.start p inside) (omega (arith, are.1))
    ]

pub low_inside : (f : Frame) (fs : List Frame) (p : ℕ) → f.start ≤ p → low_of (f ∷ fs) p ≡ f.low
low_inside f fs p le = rw (le-leb f.start p le) refl

pub low_below : (f : Frame) (fs : List Frame) (p : ℕ) → p < f.start → low_of (f ∷ fs) p ≡ low_of fs p
low_below f fs p lt = rw (lt-leb f.start p lt) refl

pub lower_last : (xs : List Frame) (top : Frame) (q m n : ℕ) → 0 < length xs → n ≡ length xs → top ≡ get_or xs (n - 1) top → m ≡ min top.low q
    → reverse (set xs (n - 1) (record { start = top.start; low = m })) ≡ lowered q (reverse xs)
lower_last xs top q m n some is at least =
    let first : reverse xs ≡ top ∷ drop 1 (reverse xs) = last_first xs top some ∙ ap (λ f. f ∷ drop 1 (reverse xs)) (ap (λ k. get_or xs (k - 1) top) (sym is) ∙ sym at) in
    let written : Frame = record { start = top.start; low = m } in
    ap (λ k. reverse (set xs (k - 1) written)) is ∙ set_last xs written some ∙ ap (λ l. (record { start = top.start; low = l }) ∷ drop 1 (reverse xs)) least
    ∙ ap (lowered q) (sym first)
