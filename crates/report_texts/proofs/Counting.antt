-- Reports that are appended and counted one by one.
use Rattle.std.proofs.Common.{◌≡◌, ◌+◌, ◌||◌, Bool, true, false, ◌<◌, ◌∙◌, ◌++◌, ap, arith, get_or, length, map, refl, sym, take, zero-add, ℕ, List, [], ◌∷◌}
use Rattle.std.specs.List.{list_any, sum_by}
use Rattle.std.proofs.lemmas.List.{take_more}
use Rattle.std.proofs.lemmas.List.Sums.{sum_by-append}

-- one element more adds its own number
pub counts_one : {A : Type 0} (f : A → ℕ) (xs : List A) (k : ℕ) (d : A) → k < length xs → sum_by f (take (k + 1) xs) ≡ sum_by f (take k xs) + f (get_or xs k d)
counts_one f xs k d lt = ap (sum_by f) (take_more xs k d lt) ∙ sum_by-append f (take k xs) (get_or xs k d ∷ []) ∙ ap (λ n. sum_by f (take k xs) + n) (zero-add (f (get_or xs k d)))

pub adds_one : {A : Type 0} (f : A → ℕ) (xs : List A) (x : A) → sum_by f (xs ++ x ∷ []) ≡ sum_by f xs + f x
adds_one f xs x = sum_by-append f xs (x ∷ []) ∙ ap (λ n. sum_by f xs + n) (zero-add (f x))

adds_first : {A : Type 0} (f : A → ℕ) (x : A) (xs : List A) → sum_by f (x ∷ xs) ≡ f x + sum_by f xs
adds_first f x xs = sum_by-append f (x ∷ []) xs ∙ ap (λ n. n + sum_by f xs) (zero-add (f x))

-- what other elements count that come of these
pub counts_through : {A B : Type 0} (f : B → ℕ) (g : A → B) (xs : List A) → sum_by f (map g xs) ≡ sum_by (λ x. f (g x)) xs
counts_through f g [] = refl
counts_through f g (x ∷ xs) = adds_first f (g x) (map g xs) ∙ ap (λ n. f (g x) + n) (counts_through f g xs) ∙ sym (adds_first (λ x. f (g x)) x xs)

pub last_is : {A : Type 0} (has : A → Bool) (x : A) → has x ≡ true → list_any has (x ∷ []) ≡ true
last_is has x is = ap (λ b. b || false) is

pub or_true : (a b : Bool) → b ≡ true → (a || b) ≡ true
or_true true b is = refl
or_true false b is = is

pub add_behind : (a b c : ℕ) → a + b + c ≡ a + (b + c)
add_behind a b c = omega arith
