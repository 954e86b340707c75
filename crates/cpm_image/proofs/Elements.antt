-- An element of a list that passes a test.
use Rattle.std.proofs.Common.{◌≡◌, ◌<◌, ℕ, suc, List, [], ◌∷◌, Bool, true, false, ◌||◌, length, get_or, refl, arith, sym, ◌∙◌}
use Rattle.std.specs.List.{list_any}
use Rattle.std.proofs.lemmas.List.Folds.{list_any_at}

where_head : {X : Type 0} (p : X → Bool) (x : X) (xs : List X) (d : X) (b : Bool) → p x ≡ b → (b || list_any p xs) ≡ true →
    (list_any p xs ≡ true → (k : ℕ) × (k < length xs) × (p (get_or xs k d) ≡ true)) → (k : ℕ) × (k < length (x ∷ xs)) × (p (get_or (x ∷ xs) k d) ≡ true)
where_head p x xs d true e h rest = (0, omega arith, e)
where_head p x xs d false e h rest = let found = rest h in (suc found.0, omega (arith, found.1), found.2)

pub where_any : {X : Type 0} (p : X → Bool) (xs : List X) (d : X) → list_any p xs ≡ true → (k : ℕ) × (k < length xs) × (p (get_or xs k d) ≡ true)
where_any p [] d h = absurd (let e : false ≡ true = h in cc)
where_any p (x ∷ xs) d h = where_head p x xs d (p x) refl h (where_any p xs d)

nowhere_by : {X : Type 0} (p : X → Bool) (xs : List X) (d : X) → list_any p xs ≡ false → (k : ℕ) → k < length xs → (b : Bool) → p (get_or xs k d) ≡ b → b ≡ false
nowhere_by p xs d none k below true e = absurd (let some = list_any_at p xs k d below e in let both : true ≡ false = sym some ∙ none in cc)
nowhere_by p xs d none k below false e = refl

pub nowhere : {X : Type 0} (p : X → Bool) (xs : List X) (d : X) → list_any p xs ≡ false → (k : ℕ) → k < length xs → p (get_or xs k d) ≡ false
nowhere p xs d none k below = nowhere_by p xs d none k below (p (get_or xs k d)) refl
