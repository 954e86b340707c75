-- What loops collect from lists, element by element; and names that are looked up.
use Rattle.std.proofs.Common.{◌≡◌, ◌<◌, ◌+◌, ◌∙◌, ◌||◌, sym, ap, refl, ℕ, zero, suc, Bool, true, false, cond, if◌then◌else◌, List, [], ◌∷◌, ◌++◌, Option, Some, None, get_or, length, map, take, arith}
use Rattle.std.specs.List.{cons_option, enumerate_from, filter_map, list_any, position_from, slice_get}
use Rattle.std.specs.Option.{option_map}
use Rattle.std.specs.Str.{bytes_eq}
use Rattle.std.proofs.Math.Bool.{or-false}
use Rattle.std.proofs.lemmas.List.{length-map, map-append, take_more}
use Rattle.std.proofs.lemmas.List.Elements.{filter_map-append}
use Rattle.std.proofs.lemmas.List.Folds.{list_any-append}
use Rattle.std.proofs.lemmas.Slice.Eq.{bytes_eq-Decides}

pub any_map : {X Y : Type 0} (p : Y → Bool) (f : X → Y) (xs : List X) → list_any p (map f xs) ≡ list_any (λ x. p (f x)) xs
any_map p f [] = refl
any_map p f (x ∷ xs) = ap (λ b. p (f x) || b) (any_map p f xs)

pub position_map : {X Y : Type 0} (p : Y → Bool) (f : X → Y) (n : ℕ) (xs : List X) → position_from p n (map f xs) ≡ position_from (λ x. p (f x)) n xs
position_map p f n [] = refl
position_map p f n (x ∷ xs) = ap (λ o. cond (p (f x)) (Some n) o) (position_map p f (n + 1) xs)

-- What is collected from the elements before one.

take_one : {X : Type 0} (xs : List X) (i : ℕ) (d : X) → slice_get xs i ≡ Some d → take (suc i) xs ≡ take i xs ++ d ∷ []
take_one [] i d is = absurd cc
take_one (x ∷ xs) zero d is = (let same : x ≡ d = cc in ap (λ y. y ∷ []) same)
take_one (x ∷ xs) (suc i) d is = ap (λ rest. x ∷ rest) (take_one xs i d is)

take_next : {X : Type 0} (xs : List X) (i : ℕ) (d : X) → slice_get xs i ≡ Some d → take (i + 1) xs ≡ take i xs ++ d ∷ []
take_next xs i d is = (let next : i + 1 ≡ suc i = omega arith in ap (λ n. take n xs) next ∙ take_one xs i d is)

map_option : {X Y : Type 0} (f : X → Y) (o : Option X) → map f (cons_option o []) ≡ cons_option (option_map f o) []
map_option f None = refl
map_option f (Some x) = refl

module _ {X Y T : Type 0} (seen : T → Y) (h : X → Option Y) (xs : List X) where
  pub given_more : (at : ℕ) (d : X) (items new : List T) (one : Option T) → Some d ≡ slice_get xs at → option_map seen one ≡ h d → new ≡ items ++ cons_option one []
      → map seen items ≡ filter_map h (take at xs) → map seen new ≡ filter_map h (take (at + 1) xs)
  given_more at d items new one is gives put was =
      ap (map seen) put ∙ map-append seen items (cons_option one []) ∙ ap (λ ys. map seen items ++ ys) (map_option seen one ∙ ap (λ o. cons_option o []) gives)
      ∙ ap (λ ys. ys ++ cons_option (h d) []) was ∙ sym (filter_map-append h (take at xs) (d ∷ [])) ∙ ap (filter_map h) (sym (take_next xs at d (sym is)))

  -- there is an element at this index
  pub is_given : {A : Type 0} (at : ℕ) → at < length xs → None ≡ slice_get xs at → A
  is_given at lt is = absurd (not_none xs at lt (sym is))
    where
      not_none : (ys : List X) (i : ℕ) → i < length ys → slice_get ys i ≡ None → ⊥
      not_none [] i lt none = omega (arith, lt)
      not_none (y ∷ ys) zero lt none = cc
      not_none (y ∷ ys) (suc i) lt none = not_none ys i (omega (arith, lt)) none

-- What is collected from the elements with their numbers.

enumerate_more : {X : Type 0} (n : ℕ) (before : List X) (x : X) → enumerate_from n (before ++ x ∷ []) ≡ enumerate_from n before ++ (n + length before, x) ∷ []
enumerate_more n [] x = ap (λ k. (k, x) ∷ []) (omega arith)
enumerate_more n (y ∷ ys) x = ap (λ rest. (n, y) ∷ rest) (enumerate_more (n + 1) ys x ∙ ap (λ k. enumerate_from (n + 1) ys ++ (k, x) ∷ []) (omega arith))

length_take : {X : Type 0} (xs : List X) (at : ℕ) → at < length xs → length (take at xs) ≡ at
length_take [] at lt = absurd (omega (arith, lt))
length_take (x ∷ xs) zero lt = refl
length_take (x ∷ xs) (suc at) lt = (let e = length_take xs at (omega (arith, lt)) in omega (arith, e))

module _ {X T Y : Type 0} (seen : T → X) (h : ℕ × X → Option Y) (xs : List T) where
  pub numbered_more : (at : ℕ) (x : T) (old new : List Y) → at < length xs → x ≡ get_or xs at x → new ≡ old ++ cons_option (h (at, seen x)) []
      → old ≡ filter_map h (enumerate_from 0 (map seen (take at xs))) → new ≡ filter_map h (enumerate_from 0 (map seen (take (at + 1) xs)))
  numbered_more at x old new lt is put was =
      let front : map seen (take (at + 1) xs) ≡ map seen (take at xs) ++ seen x ∷ [] =
      ap (map seen) (take_more xs at x lt) ∙ map-append seen (take at xs) (get_or xs at x ∷ []) ∙ ap (λ y. map seen (take at xs) ++ seen y ∷ []) (sym is) in
      let count : 0 + length (map seen (take at xs)) ≡ at = (let e = length-map (take at xs) seen in let f = length_take xs at lt in omega (arith, e, f)) in
      put ∙ ap (λ ys. ys ++ cons_option (h (at, seen x)) []) was ∙ sym (filter_map-append h (enumerate_from 0 (map seen (take at xs))) ((at, seen x) ∷ []))
      ∙ ap (λ k. filter_map h (enumerate_from 0 (map seen (take at xs)) ++ (k, seen x) ∷ [])) (sym count) ∙ ap (filter_map h) (sym (enumerate_more 0 (map seen (take at xs)) (seen x)))
      ∙ ap (λ ys. filter_map h (enumerate_from 0 ys)) (sym front)

-- Names that are looked up.

found_same : (q x : List ℕ) (ks : List (List ℕ)) → list_any (bytes_eq x) ks ≡ true → list_any (bytes_eq q) ks ≡ (list_any (bytes_eq q) ks || bytes_eq q x)
found_same q x ks there =
    elim (bytes_eq q x) as (λ b. bytes_eq q x ≡ b → list_any (bytes_eq q) ks ≡ (list_any (bytes_eq q) ks || b)) [
      | true ↦ λ same.
          let is : list_any (bytes_eq q) ks ≡ true = ap (λ n. list_any (bytes_eq n) ks) ((bytes_eq-Decides q x).0 same) ∙ there in
          rw is refl
      | false ↦ λ other. sym (or-false (list_any (bytes_eq q) ks))
    ] refl

-- whether a name is found once another name was inserted, if that was not there
pub found_more : {X : Type 0} (v : X → List ℕ) (q : List ℕ) (x : X) (ks : List X)
    → list_any (bytes_eq q) (map v (if list_any (λ k. bytes_eq (v x) (v k)) ks then ks else ks ++ x ∷ [])) ≡ (list_any (bytes_eq q) (map v ks) || bytes_eq q (v x))
found_more v q x ks =
    elim (list_any (λ k. bytes_eq (v x) (v k)) ks) as (λ b. list_any (λ k. bytes_eq (v x) (v k)) ks ≡ b → list_any (bytes_eq q) (map v (cond b ks (ks ++ x ∷ []))) ≡ (list_any (bytes_eq q) (map v ks) || bytes_eq q (v x))) [
      | true ↦ λ there. found_same q (v x) (map v ks) (any_map (bytes_eq (v x)) v ks ∙ there)
      | false ↦ λ new. ap (list_any (bytes_eq q)) (map-append v ks (x ∷ [])) ∙ list_any-append (bytes_eq q) (map v ks) (v x ∷ []) ∙ ap (λ b. list_any (bytes_eq q) (map v ks) || b) (or-false (bytes_eq q (v x)))
    ] refl
