-- A list in which each element, given its index, makes something or nothing.
use Rattle.std.proofs.Common.{◌≡◌, ◌≤◌, ℕ, ◌+◌, Bool, true, false, cond, List, [], ◌∷◌, Option, Some, None, All, length, count_by, inl, inr, ◌⊎◌, sym, subst, arith}
use Rattle.std.specs.List.{cons_option, enumerate_from, filter_map}
use Rattle.std.specs.Option.{IfSome}
use Rattle.std.proofs.lemmas.List.Elements.{All-cons, All-head, All-nil, All-tail}
use Rattle.std.proofs.lemmas.List.Sums.{sum_by-cons}

module _ {X Y : Type 0} (f : ℕ × X → Option Y) where
  -- If Q holds of what each element makes, it holds of all that is made.
  one_made : (Q : Y → Type 0) (o : Option Y) (rest : List Y) → IfSome o Q → All Q rest → All Q (cons_option o rest)
  one_made Q None rest one all = all
  one_made Q (Some y) rest one all = All-cons Q y rest one all

  pub all_made : (P : X → Type 0) (Q : Y → Type 0) → ((n : ℕ) (x : X) → P x → IfSome (f (n, x)) Q) → (n : ℕ) (xs : List X) → All P xs → All Q (filter_map f (enumerate_from n xs))
  all_made P Q makes n [] all = All-nil Q
  all_made P Q makes n (x ∷ xs) all = one_made Q (f (n, x)) (filter_map f (enumerate_from (n + 1) xs)) (makes n x (All-head P x xs all)) (all_made P Q makes (n + 1) xs (All-tail P x xs all))

  -- If only one kind of element makes something, no more is made than there are elements of that kind.
  one_counts : (has : Bool) (o : Option Y) (rest : List Y) (n : ℕ) → (o ≡ None) ⊎ (has ≡ true) → length rest ≤ n → length (cons_option o rest) ≤ cond has 1 0 + n
  one_counts has None rest n told le = omega (arith, le)
  one_counts true (Some y) rest n told le = omega (arith, le)
  one_counts false (Some y) rest n (inl none) le = absurd cc
  one_counts false (Some y) rest n (inr is) le = absurd cc

  pub few_made : (has : X → Bool) → ((n : ℕ) (x : X) → (f (n, x) ≡ None) ⊎ (has x ≡ true)) → (n : ℕ) (xs : List X) → length (filter_map f (enumerate_from n xs)) ≤ count_by has xs
  few_made has makes n [] = omega arith
  few_made has makes n (x ∷ xs) =
      subst (λ m. length (filter_map f (enumerate_from n (x ∷ xs))) ≤ m) (sym (sum_by-cons (λ y. cond (has y) 1 0) x xs))
      (one_counts (has x) (f (n, x)) (filter_map f (enumerate_from (n + 1) xs)) (count_by has xs) (makes n x) (few_made has makes (n + 1) xs))
