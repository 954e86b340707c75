-- Lists of relaxable jumps without repetition.
use Rattle.std.proofs.Common.{◌≡◌, ◌<◌, ℕ, zero, suc, List, [], ◌∷◌, Bool, false, length, take, get_or, eqb, refl, sym, arith}
use Rattle.std.specs.List.{filter}
use Rattle.std.proofs.lemmas.Bool.{cond_both, eqb-false, ne_eqb, or_from, or_parts}
use Rattle.std.proofs.lemmas.List.Elements.{All-from_get_or}
use Rattle.std.proofs.lemmas.List.Folds.{list_any_none}
use Rattle.relax.specs.declared.shape.Statement.{Statement}
use Rattle.relax.specs.Choice.{IsAnyJump}
use Rattle.relax.specs.Growth.{IsForcing, after}

-- the members of a list are relaxable jumps, and none occurs twice
abbrev pub AreDistinct : List Statement → List ℕ → Type 0
AreDistinct shape [] = Unit {0}
AreDistinct shape (j ∷ rest) = IsAnyJump shape j × (after rest j ≡ false) × AreDistinct shape rest

distinct_from_each : (shape : List Statement) (order : List ℕ) → ((i : ℕ) → i < length order → IsAnyJump shape (get_or order i 0) × (after (take i order) (get_or order i 0) ≡ false)) → AreDistinct shape order
distinct_from_each shape [] each = tt
distinct_from_each shape (j ∷ rest) each = (
  (each 0 (omega arith)).0,
  list_any_none (λ x. eqb x j) rest (All-from_get_or (λ x. eqb x j ≡ false) rest 0 (λ i lt. (let off = (each (suc i) (omega arith)).1 in
      let apart = eqb-false j (get_or rest i 0) (or_parts _ _ off).0 in
      ne_eqb (get_or rest i 0) j (λ e. apart (sym e))))),
  distinct_from_each shape rest (λ i lt. ((each (suc i) (omega arith)).0, (or_parts _ _ (each (suc i) (omega arith)).1).1)),
)

pub distinct_from_forcing : (shape : List Statement) (order : List ℕ) → IsForcing shape order → AreDistinct shape order
distinct_from_forcing shape order forcing = distinct_from_each shape order (λ i lt. (let m = forcing i lt in ((m.target, m.jump), m.short)))

take_off : (n : ℕ) (xs : List ℕ) (j : ℕ) → after xs j ≡ false → after (take n xs) j ≡ false
take_off zero xs j off = refl
take_off (suc n) [] j off = refl
take_off (suc n) (x ∷ xs) j off = let parts = or_parts (eqb x j) (after xs j) off in or_from _ _ parts.0 (take_off n xs j parts.1)

pub distinct_take : (shape : List Statement) (n : ℕ) (xs : List ℕ) → AreDistinct shape xs → AreDistinct shape (take n xs)
distinct_take shape zero xs all = tt
distinct_take shape (suc n) [] all = tt
distinct_take shape (suc n) (x ∷ xs) all = (all.0, take_off n xs x all.1, distinct_take shape n xs all.2)

filter_off : (p : ℕ → Bool) (xs : List ℕ) (j : ℕ) → after xs j ≡ false → after (filter p xs) j ≡ false
filter_off p [] j off = refl
filter_off p (x ∷ xs) j off =
    let parts = or_parts (eqb x j) (after xs j) off in
    let rest = filter_off p xs j parts.1 in
    cond_both (p x) (x ∷ filter p xs) (filter p xs) (λ l. after l j ≡ false) (λ _. or_from _ _ parts.0 rest) (λ _. rest)

pub distinct_filter : (shape : List Statement) (p : ℕ → Bool) (xs : List ℕ) → AreDistinct shape xs → AreDistinct shape (filter p xs)
distinct_filter shape p [] all = tt
distinct_filter shape p (x ∷ xs) all =
    let rest = distinct_filter shape p xs all.2 in
    cond_both (p x) (x ∷ filter p xs) (filter p xs) (AreDistinct shape) (λ _. (all.0, filter_off p xs x all.1, rest)) (λ _. rest)
