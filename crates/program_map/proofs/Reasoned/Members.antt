-- One more long jump in the forcing order.
use Rattle.std.proofs.Common.{◌≡◌, ◌<◌, ◌≤◌, ◌+◌, ℕ, List, true, length, take, get_or, refl, arith, ap, ◌∙◌, inl, inr, get_or-set_same, get_or-set_other}
use Rattle.std.specs.List.{filter}
use Rattle.std.specs.Prelude.{replicate, slice_set as set}
use Rattle.std.proofs.lemmas.Bool.{cases_Bool, cases_eq}
use Rattle.std.proofs.lemmas.List.{append-nil, get_or-replicate}
use Rattle.std.proofs.lemmas.List.Elements.{filter_more}
use Rattle.relax.specs.declared.shape.Statement.{Statement}
use Rattle.relax.specs.Choice.{Choice, bytes_before, size_at}
use Rattle.relax.proofs.Places.{bytes-next, bytes-zero}
use Rattle.program_map.specs.Reasons.Distances.{lies_between}
use Rattle.program_map.specs.Private.Gathered.{gathered}
use Rattle.program_map.specs.declared.reasons.gathering.Want.{Want}

-- a statement that wants none, or does not go over it, leaves it out
pub gathered-skip : (want : Want) (k : ℕ) (order : List ℕ) (i : ℕ) → i < length order → (0 < want.count → lies_between k want.target (get_or order i 0) ≡ true → ⊥) → gathered want k (take (i + 1) order) ≡ gathered want k (take i order)
gathered-skip want k order i lt apart =
    elim (cases_Bool (lies_between k want.target (get_or order i 0))) [
      | inl passes ↦ (let none : want.count ≡ 0 = zero_from (λ more. apart more passes) in rw none refl)
      | inr fails ↦ (let more = filter_more (lies_between k want.target) order i 0 lt in
          let same : filter (lies_between k want.target) (take (i + 1) order) ≡ filter (lies_between k want.target) (take i order) = more ∙ (rw fails (append-nil _)) in
          ap (take want.count) same)
    ]
  where
    zero_from : {n : ℕ} → (0 < n → ⊥) → n ≡ 0
    zero_from h = omega (arith, h)

-- the bytes before each statement, up to the first
pub places-first : (c : Choice) (shape : List Statement) (places : List ℕ) (n : ℕ) → places ≡ replicate n 0 → 0 < n → (j : ℕ) → j ≤ 0 → get_or places j 0 ≡ bytes_before c shape j
places-first c shape places n zeros lt j le =
    let first : j ≡ 0 = omega arith in
    rw (first, zeros, bytes-zero c shape) (get_or-replicate {A = ℕ} n 0 0 0 lt)

-- and for one statement more
pub places-more : (c : Choice) (shape : List Statement) (places : List ℕ) (k at size : ℕ) → k < length shape → length places ≡ length shape + 1 → ((j : ℕ) → j ≤ k → get_or places j 0 ≡ bytes_before c shape j) → at ≡ get_or places k 0 → size ≡ size_at c shape k → (j : ℕ) → j ≤ k + 1 → get_or (set places (k + 1) (at + size)) j 0 ≡ bytes_before c shape j
places-more c shape places k at size lt len each read is j le =
    let next = bytes-next c shape k in
    let here = each k (omega arith) in
    elim (cases_eq j (k + 1)) [
      | inl same ↦ rw same (get_or-set_same places (k + 1) (at + size) 0 (omega arith) ∙ omega arith)
      | inr other ↦ get_or-set_other places (k + 1) j (at + size) 0 other ∙ each j (omega arith)
    ]
