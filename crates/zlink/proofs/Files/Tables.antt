-- A table of the values of a function, made value by value.
use Rattle.std.proofs.Common.{◌≡◌, inl, inr, ℕ, ◌+◌, ◌≤◌, List, [], ◌∷◌, ◌++◌, length, slice_index, sym, ap, ◌∙◌, arith}
use Rattle.std.proofs.lemmas.Bool.{cases_lt}
use Rattle.std.proofs.lemmas.List.{get_or_push, get_or_append_left}

-- the table of the values of f with one more value
pub table-push : (f : ℕ → ℕ) (xs ys : List ℕ) (k n : ℕ) → length xs ≡ k + 1 → n ≡ f (k + 1) → ys ≡ xs ++ n ∷ [] → ((j : ℕ) → j ≤ k → slice_index xs j ≡ f j) → (j : ℕ) → j ≤ k + 1 → slice_index ys j ≡ f j
table-push f xs ys k n len last e each j le =
    elim (cases_lt j (k + 1)) [
      | inl lt ↦ ap (λ l. slice_index l j) e ∙ get_or_append_left xs (n ∷ []) 0 j (omega arith) ∙ each j (omega arith)
      | inr ge ↦ (let here : j ≡ k + 1 = omega arith in ap (λ l. slice_index l j) e ∙ get_or_push xs n 0 j (omega arith) ∙ last ∙ ap f (sym here))
    ]
