-- The record of a long jump is right.
use Rattle.std.proofs.Common.{◌≡◌, ◌<◌, ◌≤◌, ℕ, suc, List, [], ◌∷◌, true, false, Vec, length, get_or, eqb, refl, sym, arith, ap, ◌∙◌, subst, inl, inr}
use Rattle.std.proofs.Math.Path.{fun_ext}
use Rattle.std.proofs.lemmas.Bool.{cond_both, eqb-true, le-ltb, or_cases}
use Rattle.std.specs.Ordering.{is_lt, nat_cmp}
use Rattle.std.specs.declared.cmp.Ordering.TheVariants.{Equal, Greater}
use Rattle.std.proofs.lemmas.Option.{slice_get_within, get_or_from_slice_get}
use Rattle.relax.specs.declared.shape.Statement.{Statement}
use Rattle.relax.specs.declared.shape.Statement.TheVariants.{Fixed, Jump}
use Rattle.relax.specs.Choice.{Choice, IsShape}
use Rattle.relax.specs.Growth.{IsForcing, after}
use Rattle.program_map.specs.declared.reasons.gathering.Want.{Want}
use Rattle.program_map.specs.declared.reasons.long_jumps.LongJump.{LongJump}
use Rattle.program_map.specs.Reasons.Distances.{farthest, jump_distance}
use Rattle.program_map.specs.Reasons.Reasons.{IsLongJump}
use Rattle.program_map.specs.Private.Gathered.{AreBytesBefore, AreWants, IsDescribed, gathered, items_at, want_at, want_of}
use Rattle.program_map.proofs.Reasoned.Because.{is_reason, too_far}
use Rattle.program_map.proofs.Reasoned.Near.{target_within}

-- where a long jump is in the order
at_index : (order : List ℕ) (k : ℕ) → after order k ≡ true → (i : ℕ) × (i < length order) × (get_or order i 0 ≡ k)
at_index [] k long = absurd (cc long)
at_index (j ∷ rest) k long =
    elim (or_cases (eqb j k) (after rest k) long) [
      | inl here ↦ (0, omega arith, eqb-true j k here)
      | inr later ↦ (let there = at_index rest k later in (suc there.0, omega (arith, there.1), there.2))
    ]

module _ {A : Type 0} (shape : List Statement) (is : IsShape shape) (order : List ℕ) (forcing : IsForcing shape order) (c : Choice) (follows : (k : ℕ) → c k ≡ after order k) (places : List ℕ) (before : AreBytesBefore c shape places) (wants : List Want) (len : length wants ≡ length shape) (wanted : AreWants shape c wants) (reasons : List (Vec ℕ A)) (each : (k : ℕ) → k < length wants → items_at reasons k ≡ gathered (want_at wants k) k order) where
  pub explained : (j : LongJump) → IsDescribed shape c places reasons j → IsLongJump shape order j
  explained j said =
      let k : ℕ = j.statement in
      let t : ℕ = j.target in
      let lt : k < length shape = slice_get_within shape k (Jump t) said.jump in
      let here : get_or shape k (Fixed 0) ≡ Jump t = get_or_from_slice_get shape k (Jump t) (Fixed 0) said.jump in
      let le = target_within shape is k t here lt in
      let at = at_index order k (sym (follows k) ∙ said.long) in
      let from : get_or order at.0 0 ≡ k = at.2 in
      let want : want_at wants k ≡ want_of true shape k (Jump t) = rw (here, said.long) at (wanted k lt) in
      let reason : j.reason.items ≡ gathered (want_of true shape k (Jump t)) k order = said.describes.reason ∙ (each k (omega arith) ∙ ap (λ w. gathered w k order) want) in
      let same : c ≡ after order = fun_ext follows in
      let distance : j.distance ≡ jump_distance (after order) shape k t = subst (λ d. j.distance ≡ jump_distance d shape k t) same (said.describes.distance c shape is before lt le) in
      let far : farthest k t < jump_distance (after order) shape k t = rw from at (too_far shape order forcing at.0 at.1 t (rw from said.jump)) in
      let excess = said.describes.excess in
      record {
        jump = said.jump;
        distance = distance;
        excess = omega (arith, excess, far, distance);
        too_far = omega (arith, excess, far, distance);
        reason = rw reason (rw from at (is_reason shape order forcing at.0 at.1 t (rw from said.jump)));
      }

-- numbers in order compare so
pub not_below : (a b : ℕ) → b ≤ a → is_lt (nat_cmp a b) ≡ false
not_below a b le = rw (le-ltb a b le) (cond_both (eqb a b) Equal Greater (λ o. is_lt o ≡ false) (λ _. refl) (λ _. refl))
