-- The parts of a path, and how two lists of them are compared.
use Rattle.std.proofs.Common.{◌≡◌, ℕ, Bool, true, false, List, [], ◌∷◌, ◌++◌, Option, None, Some, ap, arith, refl, sym, ◌∙◌}
use Rattle.std.proofs.lemmas.Bool.{eqb-true}
use Rattle.std.specs.Prelude.{◌==◌, ◌&&◌, if◌then◌else◌, slice_index}
use Rattle.std.specs.Path.{IsNextComponent, cur_dir, dot, is_dot_at, path_components, path_names, root_dir, slash}
use Rattle.std.specs.Str.{bytes_eq}
use Rattle.std.specs.declared.path.components.Component.{Component}
use Rattle.host.specs.SamePath.{are_same_parts, path_parts}

-- the rest after a point at the beginning
rest_of : (names after : List (List ℕ)) (first : Option Component) → IsNextComponent (cur_dir ∷ names) first after → after ≡ names
rest_of names after None is = absurd cc
rest_of names after (Some part) (is, well) = cc

with_point : (root point : Bool) (names after : List (List ℕ)) (first : Option Component) → point ≡ true → (root ≡ true → ⊥)
    → IsNextComponent ((if root then root_dir ∷ [] else (if point then cur_dir ∷ [] else [])) ++ names) first after → after ≡ (if root then root_dir ∷ [] else []) ++ names
with_point true point names after first is not next = absurd (not refl)
with_point false false names after first is not next = absurd cc
with_point false true names after first is not next = rest_of names after first next

first_true : (a b : Bool) → (a && b) ≡ true → a ≡ true
first_true true b is = refl
first_true false b is = is

not_both : (byte : ℕ) (more : Bool) → ((byte == dot) && more) ≡ true → (byte == slash) ≡ true → ⊥
not_both byte more is at = absurd (omega (arith, eqb-true byte dot (first_true (byte == dot) more is), eqb-true byte slash at))

-- a point at the beginning is left out
pub without_point : (path : List ℕ) (after : List (List ℕ)) (first : Option Component) → is_dot_at path 0 ≡ true → IsNextComponent (path_components path) first after → after ≡ path_parts path
unfolding path_components
without_point path after first is next = with_point (slice_index path 0 == slash) (is_dot_at path 0) (path_names path) after first is (λ at. not_both (slice_index path 0) _ is at) next

no_point : (root point : Bool) (names : List (List ℕ)) → point ≡ false
    → (if root then root_dir ∷ [] else (if point then cur_dir ∷ [] else [])) ++ names ≡ (if root then root_dir ∷ [] else []) ++ names
no_point true point names is = refl
no_point false false names is = refl
no_point false true names is = absurd cc

-- without one, the parts are the components
pub all_parts : (path : List ℕ) → is_dot_at path 0 ≡ false → path_components path ≡ path_parts path
unfolding path_components
all_parts path is = no_point (slice_index path 0 == slash) (is_dot_at path 0) (path_names path) is

-- two lists that begin with a part each
pub both_begin : (xs ys xs' ys' : List (List ℕ)) (x y : List ℕ) → xs ≡ x ∷ xs' → ys ≡ y ∷ ys' → are_same_parts xs ys ≡ (bytes_eq x y && are_same_parts xs' ys')
both_begin xs ys xs' ys' x y first second = ap (λ l. are_same_parts l ys) first ∙ ap (are_same_parts (x ∷ xs')) second

-- only one of two lists ends
pub one_ends : (xs ys rest : List (List ℕ)) (x : List ℕ) → xs ≡ x ∷ rest → ys ≡ [] → are_same_parts xs ys ≡ false
one_ends xs ys rest x first second = ap (λ l. are_same_parts l ys) first ∙ ap (are_same_parts (x ∷ rest)) second

pub other_ends : (xs ys rest : List (List ℕ)) (y : List ℕ) → xs ≡ [] → ys ≡ y ∷ rest → are_same_parts xs ys ≡ false
other_ends xs ys rest y first second = ap (λ l. are_same_parts l ys) first ∙ ap (are_same_parts []) second

pub both_end : (xs ys : List (List ℕ)) → xs ≡ [] → ys ≡ [] → are_same_parts xs ys ≡ true
both_end xs ys first second = ap (λ l. are_same_parts l ys) first ∙ ap (are_same_parts []) second

-- texts that are compared, under other names
pub told : (a b x y : List ℕ) (is : Bool) (more : Bool) → bytes_eq a b ≡ is → a ≡ x → b ≡ y → (bytes_eq x y && more) ≡ (is && more)
told a b x y is more same first second = ap (λ t. t && more) (ap (λ l. bytes_eq l y) (sym first) ∙ ap (bytes_eq a) (sym second) ∙ same)
