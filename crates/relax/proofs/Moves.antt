-- What moves if a jump becomes long.
use Rattle.std.proofs.Common.{◌≡◌, ◌≢◌, ℕ, zero, suc, ◌+◌, ◌<◌, ◌≤◌, ◌||◌, true, false, List, refl, sym, ap, ◌∙◌, arith, inl, inr}
use Rattle.std.proofs.lemmas.Bool.{cases_order, eq-eqb, ne_eqb}
use Rattle.std.proofs.Math.Bool.{or-true, or-false}
use Rattle.std.specs.List.{slice_get}
use Rattle.std.specs.Option.{option_map_or}
use Rattle.relax.specs.declared.shape.Statement.{Statement}
use Rattle.relax.specs.declared.shape.Statement.TheVariants.{Jump}
use Rattle.relax.specs.Choice.{Choice, size_of, size_at, bytes_before, IsJump}
use Rattle.relax.specs.Ruler.{IsLengthened}

size-same : (c d : Choice) (shape : List Statement) (k : ℕ) → d k ≡ c k → size_at d shape k ≡ size_at c shape k
size-same c d shape k e = ap (λ b. option_map_or (size_of b) (slice_get shape k) 0) e

-- a jump that is made long moves what follows it by one byte, and nothing else
pub moved : (c d : Choice) (shape : List Statement) (k t : ℕ) → IsJump shape k t → c k ≡ false → IsLengthened c d k → (m : ℕ) → (m ≤ k → bytes_before d shape m ≡ bytes_before c shape m) × (k < m → bytes_before d shape m ≡ bytes_before c shape m + 1)
unfolding bytes_before
moved c d shape k t jump short long zero = (λ _. refl, λ lt. absurd (omega arith))
moved c d shape k t jump short long (suc m) =
    let ih = moved c d shape k t jump short long m in
    let was : size_at c shape k ≡ 2 = ap (λ o. option_map_or (size_of (c k)) o 0) jump ∙ ap (λ b. size_of b (Jump t)) short in
    let grown : d k ≡ true = long k ∙ (ap (λ b. c k || b) (eq-eqb k k refl) ∙ or-true (c k)) in
    let is : size_at d shape k ≡ 3 = ap (λ o. option_map_or (size_of (d k)) o 0) jump ∙ ap (λ b. size_of b (Jump t)) grown in
    let other : (m ≢ k → size_at d shape m ≡ size_at c shape m) = λ ne. size-same c d shape m (long m ∙ (ap (λ b. c m || b) (ne_eqb k m (λ e. ne (sym e))) ∙ or-false (c m))) in
    elim (cases_order m k) [
      | inl same ↦ (let at_c : size_at c shape m ≡ 2 = rw same was in let at_d : size_at d shape m ≡ 3 = rw same is in
          let before = ih.0 (omega arith) in (λ le. absurd (omega arith), λ lt. omega arith))
      | inr apart ↦ elim apart [
        | inl lt ↦ (let size = other (omega arith) in let before = ih.0 (omega arith) in (λ le. omega arith, λ gt. absurd (omega arith)))
        | inr gt ↦ (let size = other (omega arith) in let behind = ih.1 gt in (λ le. absurd (omega arith), λ lt. omega arith))
      ]
    ]
