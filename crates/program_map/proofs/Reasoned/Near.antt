-- How far away the jumps are that a jump goes over, if it reaches its target while all jumps are short.
use Rattle.std.proofs.Common.{◌≡◌, ◌<◌, ◌≤◌, ◌+◌, ℕ, List, [], Bool, true, false, length, get_or, refl, arith, ap, inl, inr}
use Rattle.std.proofs.lemmas.Bool.{cases_lt, lt-ltb, le-ltb}
use Rattle.std.proofs.lemmas.Bool.Decides.{nat_tests}
use Rattle.std.proofs.lemmas.List.Elements.{All-get_or}
use Rattle.relax.specs.declared.shape.Statement.{Statement}
use Rattle.relax.specs.declared.shape.Statement.TheVariants.{Fixed, Jump, Short}
use Rattle.relax.specs.Choice.{Choice, IsShape, IsStatement}
use Rattle.relax.proofs.Sizes.{bytes-apart}
use Rattle.relax.specs.Growth.{after}
use Rattle.program_map.specs.Reasons.Distances.{lies_between}
use Rattle.program_map.specs.Private.Gathered.{AreNear, AreWants, want_at, want_of, wanted_count}
use Rattle.program_map.specs.declared.reasons.gathering.Want.{Want}

pub target_within : (shape : List Statement) → IsShape shape → (k t : ℕ) → get_or shape k (Fixed 0) ≡ Jump t → k < length shape → t ≤ length shape
target_within shape is k t e lt =
    let here = All-get_or (IsStatement (length shape)) shape k (Fixed 0) lt is.each in
    rw e at here

between_ahead : (from to m : ℕ) → from < to → lies_between from to m ≡ true → (from < m) × (m < to)
between_ahead from to m lt e = (grind (arith, nat_tests), grind (arith, nat_tests))

between_back : (from to m : ℕ) → to ≤ from → lies_between from to m ≡ true → (to ≤ m) × (m < from)
between_back from to m le e = (grind (arith, nat_tests), grind (arith, nat_tests))

near_jump : (shape : List Statement) → IsShape shape → (from to : ℕ) → from < length shape → to ≤ length shape → 0 < wanted_count shape from to → (m : ℕ) → lies_between from to m ≡ true → (m ≤ from + 128) × (from ≤ m + 128)
near_jump shape is from to lt le some m between =
    elim (cases_lt from to) [
      | inl ahead ↦ (let apart = bytes-apart (after []) shape is (from + 1) to (omega arith) le in
          let far = rw (lt-ltb from to ahead) at some in
          let there = between_ahead from to m ahead between in
          let after_from = there.0 in
          let before_to = there.1 in
          (omega (arith, apart, far), omega arith))
      | inr behind ↦ (let apart = bytes-apart (after []) shape is to from behind (omega arith) in
          let far = rw (le-ltb from to behind) at some in
          let there = between_back from to m behind between in
          let from_to = there.0 in
          let before_from = there.1 in
          (omega arith, omega (arith, apart, far)))
    ]

want_near : (shape : List Statement) → IsShape shape → (long : Bool) (k : ℕ) (s : Statement) → get_or shape k (Fixed 0) ≡ s → k < length shape → (w : Want) → w ≡ want_of long shape k s → (m : ℕ) → 0 < w.count → lies_between k w.target m ≡ true → (m ≤ k + 128) × (k ≤ m + 128)
want_near shape is true k (Fixed n) here lt w want m some between = absurd (omega (arith, ap (λ v. v.count) want))
want_near shape is true k (Short t) here lt w want m some between = absurd (omega (arith, ap (λ v. v.count) want))
want_near shape is false k (Fixed n) here lt w want m some between = absurd (omega (arith, ap (λ v. v.count) want))
want_near shape is false k (Short t) here lt w want m some between = absurd (omega (arith, ap (λ v. v.count) want))
want_near shape is false k (Jump t) here lt w want m some between = absurd (omega (arith, ap (λ v. v.count) want))
want_near shape is true k (Jump t) here lt w want m some between = near_jump shape is k t lt (target_within shape is k t here lt) (rw (ap (λ v. v.count) want) at some) m (rw (ap (λ v. v.target) want) at between)

pub near_wants : (shape : List Statement) → IsShape shape → (c : Choice) (wants : List Want) → length wants ≡ length shape → AreWants shape c wants → AreNear wants
near_wants shape is c wants len are k m lt some between =
    let within : k < length shape = omega arith in
    want_near shape is (c k) k (get_or shape k (Fixed 0)) refl within (want_at wants k) (are k within) m some between
