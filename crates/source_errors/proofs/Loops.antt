-- Loops that go over a list and append what each element adds.
use Rattle.std.proofs.Common.{◌≡◌, ◌∙◌, ◌<◌, ◌≤◌, ◌+◌, ◌++◌, ap, arith, refl, sym, Option, Some, None, ℕ, List, [], ◌∷◌, append-nil, append_assoc, drop, get_or, length, map}
use Rattle.std.specs.List.{cons_option, flat_map}
use Rattle.std.specs.Option.{option_to_list}
use Rattle.std.proofs.lemmas.List.{drop_all, drop_more}

-- One element more: what it adds is no longer to come, but there.
pub one_more : {X Z : Type 0} (h : List X → List Z) (f : X → List Z) → ((x : X) (rest : List X) → h (x ∷ rest) ≡ f x ++ h rest)
    → (xs : List X) (i : ℕ) (x : X) (found new whole : List Z) → i < length xs → x ≡ get_or xs i x → new ≡ found ++ f x → found ++ h (drop i xs) ≡ whole → new ++ h (drop (i + 1) xs) ≡ whole
one_more h f adds xs i x found new whole lt is now was =
    ap (λ ys. ys ++ h (drop (i + 1) xs)) now
    ∙ append_assoc found (f x) (h (drop (i + 1) xs))
    ∙ ap (λ ys. found ++ ys) (sym (adds x (drop (i + 1) xs)) ∙ ap (λ y. h (y ∷ drop (i + 1) xs)) is ∙ ap h (sym (drop_more xs i x lt)))
    ∙ was

-- All elements were met, and so all is there.
pub all_there : {X Z : Type 0} (h : List X → List Z) → h [] ≡ [] → (xs : List X) (i : ℕ) (found whole : List Z) → length xs ≤ i → found ++ h (drop i xs) ≡ whole → found ≡ whole
all_there h none xs i found whole le was = sym (append-nil found) ∙ ap (λ ys. found ++ ys) (sym none ∙ ap h (sym (drop_all i xs le))) ∙ was

-- what one element adds that adds one thing at most
pub if_one : {Z : Type 0} (o : Option Z) (rest : List Z) → cons_option o rest ≡ option_to_list o ++ rest
if_one None rest = refl
if_one (Some z) rest = refl

pub nil_of : {X : Type 0} (xs : List X) → length xs ≡ 0 → xs ≡ []
nil_of [] none = refl
nil_of (x ∷ xs) none = absurd (omega (arith, none))

pub flat_of_map : {A B Z : Type 0} (f : B → List Z) (g : A → B) (xs : List A) → flat_map f (map g xs) ≡ flat_map (λ x. f (g x)) xs
flat_of_map f g [] = refl
flat_of_map f g (x ∷ xs) = ap (λ ys. f (g x) ++ ys) (flat_of_map f g xs)
