-- The nearest jump of one statement more.
use Rattle.std.proofs.Common.{◌≡◌, ◌+◌, ◌-◌, ◌<◌, ◌≤◌, ◌++◌, ◌∷◌, [], ℕ, Bool, true, false, if◌then◌else◌, nat_lt, min, List, Option, None, inl, inr, length, take, drop, reverse, get_or, refl, sym, ap, subst, ◌∙◌, arith}
use Rattle.std.proofs.Math.Seq.{get_or-append_seam}
use Rattle.std.proofs.lemmas.Bool.{cases_lt}
use Rattle.std.proofs.lemmas.Bool.Decides.{nat_tests}
use Rattle.std.proofs.lemmas.List.{drop_all, get_or_append_left, get_or_default, length-drop, length-reverse, reverse-append, reverse-reverse, take-append-drop, take_all, take_at}
use Rattle.std.proofs.lemmas.Grind.{common_steps}
use Rattle.std.proofs.Math.Nat.{eq-or-lt_of_le}
use Rattle.asm_parse.specs.Values.Arithmetic.{modulus}
use Rattle.source_warnings.specs.Jumps.Distances.{Sizes, jump_over, jump_within}
use Rattle.source_warnings.specs.declared.jumps.part.Site.{Site}
use Rattle.source_warnings.specs.declared.jumps.near.Near.{Near}
use Rattle.source_warnings.specs.Private.Near.{AreNear, IsNear, within}

pub turned : (sizes : Sizes) (i : ℕ) (d : Site × Option ℕ) → i < length sizes → reverse (take (i + 1) sizes) ≡ get_or sizes i d ∷ reverse (take i sizes)
turned sizes i d h = grind (arith, common_steps)

pub first_near : (sizes : Sizes) → AreNear sizes 0 (None ∷ [])
first_near sizes = record {
  len = refl;
  each = λ k h. let none : k ≡ 0 = omega arith in subst (λ j. IsNear (reverse (take j sizes)) (get_or (None ∷ []) j None)) (sym none) (record { finds = λ bytes few. refl });
}

pub next_near : (sizes : Sizes) (i : ℕ) (nears : List (Option Near)) (near : Option Near) → AreNear sizes i nears → IsNear (reverse (take (i + 1) sizes)) near → AreNear sizes (i + 1) (nears ++ near ∷ [])
next_near sizes i nears near before this = record {
  len = grind (arith, common_steps, before.len);
  each = λ k h. elim (eq-or-lt_of_le h) [
    | inl last ↦
        let at : get_or (nears ++ near ∷ []) k None ≡ near = ap (λ j. get_or (nears ++ near ∷ []) j None) (last ∙ sym before.len) ∙ get_or-append_seam nears near [] None in
        subst (λ x. IsNear (reverse (take k sizes)) x) (sym at) (subst (λ j. IsNear (reverse (take j sizes)) near) (sym last) this)
    | inr less ↦
        subst (λ x. IsNear (reverse (take k sizes)) x) (sym (get_or_append_left nears (near ∷ []) None k (omega (arith, before.len, less)))) (before.each k (omega (arith, less)))
  ];
}

-- a number past the end counts as the end
clamped_drop : {X : Type 0} (xs : List X) (k : ℕ) → drop (min k (length xs)) xs ≡ drop k xs
clamped_drop xs k = elim (cases_lt (length xs) k) [
  | inl past ↦ let is : min k (length xs) ≡ length xs = omega (arith, past) in ap (λ n. drop n xs) is ∙ drop_all (length xs) xs (omega arith) ∙ sym (drop_all k xs (omega (arith, past)))
  | inr within ↦ let is : min k (length xs) ≡ k = omega (arith, within) in ap (λ n. drop n xs) is
]

clamped_take : {X : Type 0} (xs : List X) (k : ℕ) → take (min k (length xs)) xs ≡ take k xs
clamped_take xs k = elim (cases_lt (length xs) k) [
  | inl past ↦ let is : min k (length xs) ≡ length xs = omega (arith, past) in ap (λ n. take n xs) is ∙ take_all (length xs) xs (omega arith) ∙ sym (take_all k xs (omega (arith, past)))
  | inr within ↦ let is : min k (length xs) ≡ k = omega (arith, within) in ap (λ n. take n xs) is
]

-- the last elements, from the end back, are the first of the list from the end back
turned_end : {X : Type 0} (xs : List X) (k at : ℕ) → k ≤ length xs → at ≡ length xs - k → reverse (take at (reverse xs)) ≡ drop k xs
turned_end xs k at h is =
    let parts : reverse xs ≡ reverse (drop k xs) ++ reverse (take k xs) = ap reverse (sym (take-append-drop k xs)) ∙ reverse-append (take k xs) (drop k xs) in
    let len : length (reverse (drop k xs)) ≡ at = length-reverse (drop k xs) ∙ length-drop k xs ∙ sym is in
    ap reverse (ap (take at) parts ∙ take_at (reverse (drop k xs)) (reverse (take k xs)) at len) ∙ reverse-reverse (drop k xs)

pub near_ahead : (sizes : Sizes) (ahead : List (Option Near)) (k at bytes : ℕ) (d : Option Near) → AreNear (reverse sizes) (length sizes) ahead → at ≡ length sizes - min k (length sizes) → bytes ≤ modulus
    → within bytes (get_or ahead at d) ≡ jump_within bytes (drop k sizes)
near_ahead sizes ahead k at bytes d are is few =
    let there : get_or ahead at d ≡ get_or ahead at None = get_or_default ahead at d None (omega (arith, are.len, is)) in
    let near = are.each at (omega (arith, is)) in
    let list : reverse (take at (reverse sizes)) ≡ drop k sizes = turned_end sizes (min k (length sizes)) at (omega arith) is ∙ clamped_drop sizes k in
    ap (within bytes) there ∙ sym (near.finds bytes few) ∙ ap (jump_within bytes) list

pub near_back : (sizes : Sizes) (back : List (Option Near)) (k at bytes : ℕ) (d : Option Near) → AreNear sizes (length sizes) back → at ≡ min k (length sizes) → bytes ≤ modulus
    → within bytes (get_or back at d) ≡ jump_within bytes (reverse (take k sizes))
near_back sizes back k at bytes d are is few =
    let there : get_or back at d ≡ get_or back at None = get_or_default back at d None (omega (arith, are.len, is)) in
    let near = are.each at (omega (arith, is)) in
    let list : reverse (take at sizes) ≡ reverse (take k sizes) = ap (λ n. reverse (take n sizes)) is ∙ ap reverse (clamped_take sizes k) in
    ap (within bytes) there ∙ sym (near.finds bytes few) ∙ ap (jump_within bytes) list

if_true : {X : Type 0} (b : Bool) (x y : X) → b ≡ true → (if b then x else y) ≡ x
if_true b x y is = rw is refl

if_false : {X : Type 0} (b : Bool) (x y : X) → b ≡ false → (if b then x else y) ≡ y
if_false b x y is = rw is refl

pub over_ahead : (sizes : Sizes) (k bytes : ℕ) (found : Option Site) → bytes < 32768 → found ≡ jump_within bytes (drop k sizes) → found ≡ jump_over sizes k bytes
over_ahead sizes k bytes found h is = is ∙ sym (if_true (nat_lt bytes 32768) _ _ (grind (arith, nat_tests)))

pub over_back : (sizes : Sizes) (k bytes : ℕ) (found : Option Site) → 32768 ≤ bytes → found ≡ jump_within (modulus - bytes) (reverse (take k sizes)) → found ≡ jump_over sizes k bytes
over_back sizes k bytes found h is = is ∙ sym (if_false (nat_lt bytes 32768) _ _ (grind (arith, nat_tests)))
