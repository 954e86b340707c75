-- Lists that are sorted by a comparison.
use Rattle.std.proofs.Common.{◌≡◌, ◌∙◌, ◌+◌, ℕ, zero, suc, Bool, true, false, cond, List, [], ◌∷◌, filter, take, drop, refl, sym, ap, ap₂, arith, Ordering, Less, Equal, Greater, is_lt, is_gt, is_eq, true≢false, add-one}
use Rattle.std.specs.List.{AllByRecursion, prefix_len}
use Rattle.std.specs.Prelude.{◌&&◌, not}
use Rattle.std.specs.List.Sorted.{IsSorted, IsStable, ties}
use Rattle.std.specs.Cmp.{IsTotalOrder}
use Rattle.std.specs.Ordering.{ordering_reverse}
use Rattle.std.proofs.lemmas.Cmp.{tied_itself, upto, alike_right}
use Rattle.std.proofs.lemmas.List.Elements.{filter_agree}
use Rattle.program_map.specs.Private.Runs.{IsAscending}

pub all_weaker : {X : Type 0} (P Q : X → Type 0) → ((x : X) → P x → Q x) → (xs : List X) → AllByRecursion P xs → AllByRecursion Q xs
all_weaker P Q f [] h = tt
all_weaker P Q f (x ∷ xs) h = (f x h.0, all_weaker P Q f xs h.1)

pub filter_none : {X : Type 0} (p : X → Bool) (xs : List X) → AllByRecursion (λ x. p x ≡ false) xs → filter p xs ≡ []
filter_none p [] h = refl
filter_none p (x ∷ xs) h = rw (h.0, filter_none p xs h.1)

one_more : (n : ℕ) → 1 + n ≡ suc n
one_more n = omega arith

-- elements that are skipped at the front do not pass the filter
pub filter_behind : {X : Type 0} (p r : X → Bool) → ((x : X) → r x ≡ true → p x ≡ false) → (xs : List X) → filter p (drop (prefix_len r xs) xs) ≡ filter p xs
filter_behind p r never [] = refl
filter_behind p r never (x ∷ xs) = go (r x) refl (filter_behind p r never xs)
  where
    go : (b : Bool) → r x ≡ b → filter p (drop (prefix_len r xs) xs) ≡ filter p xs → filter p (drop (cond b (1 + prefix_len r xs) 0) (x ∷ xs)) ≡ filter p (x ∷ xs)
    go true e more = rw (one_more (prefix_len r xs), never x e) more
    go false e more = refl

module _ {X : Type 0} (cmp : X → X → Ordering) (total : IsTotalOrder cmp) where
  abbrev pub AtMost : X → X → Type 0
  AtMost a b = is_gt (cmp a b) ≡ false

  abbrev pub is_like : X → X → Bool
  is_like x y = is_eq (cmp x y)

  abbrev pub is_under : X → X → Bool
  is_under x y = is_lt (cmp y x)

  turned : (o : Ordering) → is_lt o ≡ false → is_gt (ordering_reverse o) ≡ false
  turned Less h = h
  turned Equal h = refl
  turned Greater h = refl

  pub not_under : (x y : X) → is_under x y ≡ false → AtMost x y
  not_under x y h = ap is_gt (total.antisymm x y) ∙ turned (cmp y x) h

  still_under : (x y z : X) → cmp x y ≡ Less → AtMost y z → cmp x z ≡ Less
  still_under x y z less most = go (cmp y z) refl most
    where
      go : (o : Ordering) → cmp y z ≡ o → is_gt o ≡ false → cmp x z ≡ Less
      go Less e h = total.trans x y z less e
      go Equal e h = sym (alike_right total y z x e) ∙ less
      go Greater e h = absurd (true≢false h)

  -- if neither of two elements is less, they are equal in the order
  tied : (o : Ordering) → (not (is_lt o) && not (is_lt (ordering_reverse o))) ≡ is_eq o
  tied Less = refl
  tied Equal = refl
  tied Greater = refl

  pub like_from_stable : (xs ys : List X) → IsStable cmp xs ys → (x : X) → filter (is_like x) ys ≡ filter (is_like x) xs
  like_from_stable xs ys stable x =
      let agree : (y : X) → is_like x y ≡ ties (λ a b. is_lt (cmp a b)) x y =
      λ y. sym (ap (λ o. not (is_lt (cmp x y)) && not (is_lt o)) (total.antisymm y x) ∙ tied (cmp x y)) in
      filter_agree _ _ agree ys ∙ stable x ∙ sym (filter_agree _ _ agree xs)

  -- a sorted list
  below_all : (x : X) (ys : List X) → IsSorted cmp (x ∷ ys) → IsAscending cmp ys → AllByRecursion (AtMost x) ys
  below_all x [] sorted up = tt
  below_all x (y ∷ ys) sorted up =
      let first : AtMost x y = not_under x y (sorted 0 x (omega arith) (omega arith)) in
      (first, all_weaker _ (AtMost x) (λ z. upto total x y z first) ys up.0)

  pub ascending_from_sorted : (xs : List X) → IsSorted cmp xs → IsAscending cmp xs
  ascending_from_sorted [] sorted = tt
  ascending_from_sorted (x ∷ xs) sorted =
      let tail : IsSorted cmp xs = λ k d p q. rw add-one (rw add-one at (sorted (suc k) d (omega arith) (omega arith))) in
      let up = ascending_from_sorted xs tail in
      (below_all x xs sorted up, up)

  pub ascending_drop : (n : ℕ) (xs : List X) → IsAscending cmp xs → IsAscending cmp (drop n xs)
  ascending_drop zero xs up = up
  ascending_drop (suc n) [] up = up
  ascending_drop (suc n) (x ∷ xs) up = ascending_drop n xs up.1

  -- after all elements that are less than x
  pub all_from : (x : X) (ys : List X) → IsAscending cmp ys → AllByRecursion (AtMost x) (drop (prefix_len (is_under x) ys) ys)
  all_from x [] up = tt
  all_from x (y ∷ ys) up = go (is_under x y) refl (all_from x ys up.1)
    where
      go : (b : Bool) → is_under x y ≡ b → AllByRecursion (AtMost x) (drop (prefix_len (is_under x) ys) ys)
          → AllByRecursion (AtMost x) (drop (cond b (1 + prefix_len (is_under x) ys) 0) (y ∷ ys))
      go true e more = rw (one_more (prefix_len (is_under x) ys)) more
      go false e more = let first = not_under x y e in (first, all_weaker _ (AtMost x) (λ z. upto total x y z first) ys up.0)

  none_like : (x y : X) (ys : List X) → cmp x y ≡ Less → AllByRecursion (AtMost y) ys → filter (is_like x) (y ∷ ys) ≡ []
  none_like x y ys less up =
      filter_none (is_like x) (y ∷ ys) (ap is_eq less, all_weaker _ (λ z. is_like x z ≡ false) (λ z most. ap is_eq (still_under x y z less most)) ys up)

  -- if none is less than x, those equal to x are at the front
  pub front_like : (x : X) (ys : List X) → AllByRecursion (AtMost x) ys → IsAscending cmp ys → take (prefix_len (is_like x) ys) ys ≡ filter (is_like x) ys
  front_like x [] most up = refl
  front_like x (y ∷ ys) most up = go (cmp x y) refl most.0 (front_like x ys most.1 up.1)
    where
      go : (o : Ordering) → cmp x y ≡ o → is_gt o ≡ false → take (prefix_len (is_like x) ys) ys ≡ filter (is_like x) ys
          → take (cond (is_eq o) (1 + prefix_len (is_like x) ys) 0) (y ∷ ys) ≡ filter (is_like x) (y ∷ ys)
      go Less e h more = sym (none_like x y ys e up.0)
      go Equal e h more = rw (one_more (prefix_len (is_like x) ys), e) (ap (λ zs. y ∷ zs) more)
      go Greater e h more = absurd (true≢false h)

  -- Among all lists in which equal elements have the same order, only one is sorted.
  self : (x : X) → is_like x x ≡ true
  self x = ap is_eq (tied_itself total x)

  pub one_order : (xs ys : List X) → IsAscending cmp xs → IsAscending cmp ys → ((z : X) → filter (is_like z) xs ≡ filter (is_like z) ys) → xs ≡ ys
  one_order [] [] up down same = refl
  one_order [] (y ∷ ys) up down same = let e = rw (self y) at (same y) in cc
  one_order (x ∷ xs) [] up down same = let e = rw (self x) at (same x) in cc
  one_order (x ∷ xs) (y ∷ ys) up down same = go (cmp x y) refl (one_order xs ys up.1 down.1)
    where
      tail : (z : X) (t : Bool) → is_like z x ≡ t → is_like z y ≡ t → filter (is_like z) xs ≡ filter (is_like z) ys
      tail z true p q = let e = rw (p, q) at (same z) in cc
      tail z false p q = rw (p, q) at (same z)

      go : (o : Ordering) → cmp x y ≡ o → (((z : X) → filter (is_like z) xs ≡ filter (is_like z) ys) → xs ≡ ys) → x ∷ xs ≡ y ∷ ys
      go Less e more = let f = rw (self x) at (same x ∙ none_like x y ys e down.0) in cc
      go Equal e more =
          let like : is_like x y ≡ true = ap is_eq e in
          let f = rw (self x, like) at (same x) in
          let first : x ≡ y = cc in
          ap₂ (λ z zs. z ∷ zs) first (more (λ z. tail z (is_like z x) refl (ap (is_like z) (sym first))))
      go Greater e more =
          let less : cmp y x ≡ Less = total.antisymm y x ∙ ap ordering_reverse e in
          let f = rw (self y) at (sym (same y) ∙ none_like y x xs less up.0) in cc

  -- A stable sort by insertion.
  abbrev pub inserted : X → List X → List X
  inserted x [] = x ∷ []
  inserted x (y ∷ ys) = cond (is_lt (cmp y x)) (y ∷ inserted x ys) (x ∷ y ∷ ys)

  abbrev pub sorted : List X → List X
  sorted [] = []
  sorted (x ∷ xs) = inserted x (sorted xs)

  all_inserted : (P : X → Type 0) (x : X) (ys : List X) → P x → AllByRecursion P ys → AllByRecursion P (inserted x ys)
  all_inserted P x [] h all = (h, tt)
  all_inserted P x (y ∷ ys) h all =
      elim (is_lt (cmp y x)) as (λ b. AllByRecursion P (cond b (y ∷ inserted x ys) (x ∷ y ∷ ys))) [ true ↦ (all.0, all_inserted P x ys h all.1) | false ↦ (h, all) ]

  under_most : (o : Ordering) → is_lt o ≡ true → is_gt o ≡ false
  under_most Less h = refl
  under_most Equal h = refl
  under_most Greater h = sym h

  inserted_ascends : (x : X) (ys : List X) → IsAscending cmp ys → IsAscending cmp (inserted x ys)
  inserted_ascends x [] up = (tt, tt)
  inserted_ascends x (y ∷ ys) up = go (is_lt (cmp y x)) refl (inserted_ascends x ys up.1)
    where
      go : (b : Bool) → is_lt (cmp y x) ≡ b → IsAscending cmp (inserted x ys) → IsAscending cmp (cond b (y ∷ inserted x ys) (x ∷ y ∷ ys))
      go true e more = (all_inserted (AtMost y) x ys (under_most (cmp y x) e) up.0, more)
      go false e more =
          let first : AtMost x y = not_under x y e in
          ((first, all_weaker (AtMost y) (AtMost x) (λ z. upto total x y z first) ys up.0), up)

  -- an element that is less than x is not equal to what equals x
  apart : (x y z : X) → is_lt (cmp y x) ≡ true → is_like z x ≡ true → is_like z y ≡ false
  apart x y z under like = go (cmp z x) (cmp y x) refl refl like under
    where
      go : (o p : Ordering) → cmp z x ≡ o → cmp y x ≡ p → is_eq o ≡ true → is_lt p ≡ true → is_like z y ≡ false
      go Equal Less e f h k = ap is_eq (total.antisymm z y ∙ ap ordering_reverse (alike_right total z x y e ∙ f))
      go Equal Equal e f h k = absurd (true≢false (sym k))
      go Equal Greater e f h k = absurd (true≢false (sym k))
      go Less p e f h k = absurd (true≢false (sym h))
      go Greater p e f h k = absurd (true≢false (sym h))

  inserted_like : (z x : X) (ys : List X) → filter (is_like z) (inserted x ys) ≡ filter (is_like z) (x ∷ ys)
  inserted_like z x [] = refl
  inserted_like z x (y ∷ ys) = go (is_lt (cmp y x)) refl (inserted_like z x ys)
    where
      swap : (s t : Bool) → is_like z x ≡ s → is_like z y ≡ t → is_lt (cmp y x) ≡ true
          → cond t (y ∷ cond s (x ∷ filter (is_like z) ys) (filter (is_like z) ys)) (cond s (x ∷ filter (is_like z) ys) (filter (is_like z) ys))
          ≡ cond s (x ∷ cond t (y ∷ filter (is_like z) ys) (filter (is_like z) ys)) (cond t (y ∷ filter (is_like z) ys) (filter (is_like z) ys))
      swap true true p q e = absurd (true≢false (sym q ∙ apart x y z e p))
      swap true false p q e = refl
      swap false true p q e = refl
      swap false false p q e = refl

      go : (b : Bool) → is_lt (cmp y x) ≡ b → filter (is_like z) (inserted x ys) ≡ filter (is_like z) (x ∷ ys)
          → filter (is_like z) (cond b (y ∷ inserted x ys) (x ∷ y ∷ ys)) ≡ filter (is_like z) (x ∷ y ∷ ys)
      go true e more = rw more (swap (is_like z x) (is_like z y) refl refl e)
      go false e more = refl

  sorted_ascends : (xs : List X) → IsAscending cmp (sorted xs)
  sorted_ascends [] = tt
  sorted_ascends (x ∷ xs) = inserted_ascends x (sorted xs) (sorted_ascends xs)

  sorted_like : (z : X) (xs : List X) → filter (is_like z) (sorted xs) ≡ filter (is_like z) xs
  sorted_like z [] = refl
  sorted_like z (x ∷ xs) = inserted_like z x (sorted xs) ∙ ap (λ ys. cond (is_like z x) (x ∷ ys) ys) (sorted_like z xs)

  pub stable_is : (xs ys : List X) → IsSorted cmp ys → IsStable cmp xs ys → ys ≡ sorted xs
  stable_is xs ys in_order stable =
      one_order ys (sorted xs) (ascending_from_sorted ys in_order) (sorted_ascends xs) (λ z. like_from_stable xs ys stable z ∙ sym (sorted_like z xs))
