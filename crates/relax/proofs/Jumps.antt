use Rattle.std.proofs.Common.{◌≡◌, ℕ, ◌+◌, ◌<◌, ◌++◌, ◌∷◌, [], true, false, List, length, Some, refl, sym, ap, ◌∙◌, arith, inl, inr, get_or, take, count_by}
use Rattle.std.proofs.lemmas.Bool.{cases_lt}
use Rattle.std.proofs.lemmas.List.{get_or_push, get_or_append_left, length_push}
use Rattle.std.proofs.lemmas.List.Sums.{count_by_more_yes, count_by_more_no}
use Rattle.std.proofs.lemmas.Option.{slice_get-get_or, slice_get_within, get_or_from_slice_get}
use Rattle.relax.specs.declared.shape.Statement.{Statement}
use Rattle.relax.specs.declared.shape.Statement.TheVariants.{Fixed, Jump, Short}
use Rattle.relax.specs.declared.relaxable.RelaxableJump.{RelaxableJump}
use Rattle.relax.specs.Choice.{IsJump, IsAnyJump}
use Rattle.relax.specs.Probes.{is_jump}
use Rattle.relax.specs.Private.Worklist.{statement_of, target_of}

-- the jumps below k, in order
pub record JumpsBelow (shape : List Statement) (jumps : List RelaxableJump) (k : ℕ) : Type 0 where
  pub each : (p : ℕ) → p < length jumps → IsJump shape (statement_of jumps p) (target_of jumps p)
  pub below : (p : ℕ) → p < length jumps → statement_of jumps p < k
  pub ascending : (p : ℕ) → p + 1 < length jumps → statement_of jumps p < statement_of jumps (p + 1)
  pub complete : (j t : ℕ) → j < k → IsJump shape j t → (p : ℕ) × (p < length jumps) × (statement_of jumps p ≡ j)
  pub count : length jumps ≡ count_by is_jump (take k shape)

module _ (shape : List Statement) (jumps : List RelaxableJump) (k : ℕ) (was : JumpsBelow shape jumps k) where
  not_jump : (s : Statement) → ((t : ℕ) → ¬ (s ≡ Jump t)) → is_jump s ≡ false
  not_jump (Fixed n) none = refl
  not_jump (Jump t) none = absurd (none t refl)
  not_jump (Short t) none = refl

  pub jumps-skip : k < length shape → ¬ IsAnyJump shape k → JumpsBelow shape jumps (k + 1)
  jumps-skip lt is_not = record {
    each = was.each;
    below = λ p l. (let b = was.below p l in omega arith);
    ascending = was.ascending;
    complete = λ j t l jump. elim (cases_lt j k) [
      | inl early ↦ was.complete j t early jump
      | inr last ↦ (let e : j ≡ k = omega arith in absurd (is_not (t, rw e at jump)))
    ];
    count = (let here = slice_get-get_or shape k (Fixed 0) lt in
        let none = not_jump (get_or shape k (Fixed 0)) (λ t e. is_not (t, here ∙ ap Some e)) in
        was.count ∙ sym (count_by_more_no is_jump shape k (Fixed 0) lt none));
  }

  pub jumps-more : (t : ℕ) → IsJump shape k t → JumpsBelow shape (jumps ++ record { statement = k; target = t } ∷ []) (k + 1)
  jumps-more t jump =
      let added : RelaxableJump = record { statement = k; target = t } in
      let none : RelaxableJump = record { statement = 0; target = 0 } in
      let len = length_push jumps added in
      let old : ((p : ℕ) → p < length jumps → get_or (jumps ++ added ∷ []) p none ≡ get_or jumps p none) = λ p l. get_or_append_left jumps (added ∷ []) none p l in
      let new : get_or (jumps ++ added ∷ []) (length jumps) none ≡ added = get_or_push jumps added none (length jumps) refl in
      let old_from : ((p : ℕ) → p < length jumps → statement_of (jumps ++ added ∷ []) p ≡ statement_of jumps p) = λ p l. ap (λ x. x.statement) (old p l) in
      let old_to : ((p : ℕ) → p < length jumps → target_of (jumps ++ added ∷ []) p ≡ target_of jumps p) = λ p l. ap (λ x. x.target) (old p l) in
      let new_from : statement_of (jumps ++ added ∷ []) (length jumps) ≡ k = ap (λ x. x.statement) new in
      let new_to : target_of (jumps ++ added ∷ []) (length jumps) ≡ t = ap (λ x. x.target) new in
      let lt = slice_get_within shape k (Jump t) jump in
      record {
        each = λ p l. elim (cases_lt p (length jumps)) [ inl early ↦ rw (old_from p early, old_to p early) (was.each p early) | inr last ↦ (let e : p ≡ length jumps = omega arith in rw (e, new_from, new_to) jump) ];
        below = λ p l. elim (cases_lt p (length jumps)) [ inl early ↦ rw (old_from p early) (let b = was.below p early in omega arith) | inr last ↦ (let e : p ≡ length jumps = omega arith in rw (e, new_from) (omega arith)) ];
        ascending = λ p l. elim (cases_lt (p + 1) (length jumps)) [ inl early ↦ (let here : p < length jumps = omega arith in rw (old_from p here, old_from (p + 1) early) (was.ascending p early)) | inr last ↦ (let here : p < length jumps = omega arith in let e : p + 1 ≡ length jumps = omega arith in rw (old_from p here, e, new_from) (was.below p here)) ];
        complete = λ j u l is. elim (cases_lt j k) [
          | inl early ↦ (let there = was.complete j u early is in (there.0, omega (arith, there.1), old_from there.0 there.1 ∙ there.2))
          | inr last ↦ (length jumps, omega arith, new_from ∙ (omega arith))
        ];
        count = (let yes : is_jump (get_or shape k (Fixed 0)) ≡ true = ap is_jump (get_or_from_slice_get shape k (Jump t) (Fixed 0) jump) in
            let more = count_by_more_yes is_jump shape k (Fixed 0) lt yes in omega (arith, was.count));
      }
