-- The jumps of a reason suffice, and there is one reason.
use Rattle.std.proofs.Common.{◌≡◌, ◌<◌, ◌≤◌, ℕ, zero, suc, true, false, List, [], ◌∷◌, ◌++◌, length, take, refl, sym, arith, ap, ◌∙◌, inl, inr}
use Rattle.std.proofs.lemmas.Bool.{cases_lt, true_from_ne_false}
use Rattle.std.specs.List.{filter}
use Rattle.relax.specs.declared.shape.Statement.{Statement}
use Rattle.relax.specs.Choice.{Choice, IsJump, IsSettled}
use Rattle.relax.specs.Growth.{IsForcing, Misses, after}
use Rattle.relax.proofs.Forcing.{each-push, reaches-within}
use Rattle.program_map.specs.Reasons.Distances.{lies_between}
use Rattle.program_map.specs.Reasons.Laws.{IsLongIn}
use Rattle.program_map.specs.Reasons.Reasons.{IsReason}

pub needed : (shape : List Statement) (order : List ℕ) (from to : ℕ) (jumps : List ℕ) → IsJump shape from to → IsReason shape order from to jumps → (c : Choice) → IsSettled c shape → IsLongIn jumps c → c from ≡ true
needed shape order from to jumps jump is c settled long = true_from_ne_false (c from) (λ short. is.suffices (reaches-within (after jumps) c long shape from to (settled from to jump short)))

pub forces : (shape : List Statement) (order : List ℕ) (from to : ℕ) (jumps : List ℕ) → IsJump shape from to → IsReason shape order from to jumps → (before : List ℕ) → IsForcing shape before → IsLongIn jumps (after before) → after before from ≡ false → IsForcing shape (before ++ from ∷ [])
forces shape order from to jumps jump is before forcing long short =
    let misses : Misses (after before) shape from = record {
      target = to;
      jump = jump;
      short = short;
      misses = λ reach. is.suffices (reaches-within (after jumps) (after before) long shape from to reach);
    } in
    each-push (λ earlier j. Misses (after earlier) shape j) before from forcing misses

take-take : (m n : ℕ) (xs : List ℕ) → m ≤ n → take m (take n xs) ≡ take m xs
take-take zero n xs le = refl
take-take (suc m) zero xs le = absurd (omega arith)
take-take (suc m) (suc n) [] le = refl
take-take (suc m) (suc n) (x ∷ xs) le = ap (λ l. x ∷ l) (take-take m n xs (omega arith))

-- one reason is no longer than the other
no_longer : (shape : List Statement) (order : List ℕ) (from to : ℕ) (a b : List ℕ) → IsReason shape order from to a → IsReason shape order from to b → length a < length b → ⊥
no_longer shape order from to a b of_a of_b lt =
    let front : take (length a) b ≡ a = ap (take (length a)) of_b.first ∙ (take-take (length a) (length b) _ (omega arith) ∙ sym of_a.first) in
    of_a.suffices (rw front at (of_b.least (length a) lt))

pub one : (shape : List Statement) (order : List ℕ) (from to : ℕ) (a b : List ℕ) → IsReason shape order from to a → IsReason shape order from to b → a ≡ b
one shape order from to a b of_a of_b =
    elim (cases_lt (length a) (length b)) [
      | inl lt ↦ absurd (no_longer shape order from to a b of_a of_b lt)
      | inr ge ↦ elim (cases_lt (length b) (length a)) [
        | inl lt ↦ absurd (no_longer shape order from to b a of_b of_a lt)
        | inr le ↦ (let same : length a ≡ length b = omega arith in of_a.first ∙ (ap (λ n. take n (filter (lies_between from to) order)) same ∙ sym of_b.first))
      ]
    ]
