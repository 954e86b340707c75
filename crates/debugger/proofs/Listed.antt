-- The rows of a line of a listing.
use Rattle.std.proofs.Common.{◌≡◌, ◌+◌, ◌++◌, ◌∷◌, [], ℕ, suc, Bool, true, false, List, arith, cond, ap, length, map, take, refl, sym, ◌∙◌, append_assoc}
use Rattle.std.specs.Prelude.{◌==◌}
use Rattle.std.specs.List.{prefix_len, take_while}
use Rattle.std.proofs.lemmas.Bool.{eq-eqb}
use Rattle.debugger.specs.Text.{is_further_row, rows_from}

-- these rows, and those of the same line that come next; or, if there are none yet, the first ones
abbrev pub rows_after : List ℕ → List (List ℕ) → List (List ℕ) → List (List ℕ)
rows_after digits [] rest = rows_from digits rest
rows_after digits (row ∷ rows) rest = (row ∷ rows) ++ take_while is_further_row rest

further-yes : (row : List ℕ) (rows : List (List ℕ)) → is_further_row row ≡ true → take_while is_further_row (row ∷ rows) ≡ row ∷ take_while is_further_row rows
further-yes row rows e =
    let one : 1 + prefix_len is_further_row rows ≡ suc (prefix_len is_further_row rows) = omega arith in
    ap (λ (b : Bool). take (cond b (1 + prefix_len is_further_row rows) 0) (row ∷ rows)) e ∙ ap (λ k. take k (row ∷ rows)) one

-- rows of which there are some
pub some_rows : {X : Type 0} (f : X → List ℕ) (xs : List X) (n : ℕ) → n ≡ length xs → (n == 0) ≡ false → map f xs ≡ [] → ⊥
some_rows f [] n len some none = let zero_rows : (n == 0) ≡ true = eq-eqb n 0 len in absurd (cc)
some_rows f (x ∷ xs) n len some none = absurd (cc)

pub further_row : (digits line : List ℕ) (rows rest : List (List ℕ)) → (rows ≡ [] → ⊥) → is_further_row line ≡ true → rows_after digits (rows ++ line ∷ []) rest ≡ rows_after digits rows (line ∷ rest)
further_row digits line [] rest some further = absurd (some refl)
further_row digits line (row ∷ rows) rest some further =
    append_assoc (row ∷ rows) (line ∷ []) (take_while is_further_row rest) ∙ sym (ap (λ more. (row ∷ rows) ++ more) (further-yes line rest further))
