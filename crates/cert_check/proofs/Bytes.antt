-- The sizes of statements, the bytes before a statement, and whether a short jump reaches its target.
use Rattle.std.proofs.Common.{◌≡◌, ℕ, zero, suc, ◌+◌, ◌-◌, ◌^◌, ◌<◌, ◌≤◌, Bool, true, false, List, [], ◌∷◌, All, length, refl, ap, sym, subst, ◌∙◌, arith, get_or, get_or-set_same, get_or-set_other, add-one, inl, inr, MatchBool, ◌⊎◌, not, sum, take, drop, nat_le}
use Rattle.std.specs.Option.{option_map_or}
use Rattle.std.specs.Prelude.{slice_set as set, slice_get}
use Rattle.std.proofs.lemmas.Bool.{leb-true, cases_eq, cases_lt}
use Rattle.std.proofs.lemmas.Option.{slice_get_within, slice_get_past}
use Rattle.std.proofs.lemmas.List.{drop-take, get_or_past, length-set, take_all, take-take}
use Rattle.std.proofs.lemmas.List.Elements.{All-head, All-set, All-tail}
use Rattle.std.proofs.lemmas.List.Sums.{sum_by-cons, sum_by-le, sum_by-take-drop, sum_by_more}
use Rattle.cert_check.specs.declared.limits.TheConstants.{MOST_BYTES, MOST_STATEMENTS}
use Rattle.cert_check.specs.declared.shape.Statement.{Statement}
use Rattle.cert_check.specs.declared.shape.Statement.TheVariants.{Jump}
use Rattle.cert_check.specs.Choice.{Choice, chosen, size_of, IsShape, size_at, bytes_before, IsJump, IsNear, IsShort, Reaches, total}
use Rattle.cert_check.specs.Faults.{IsStillShort}
use Rattle.cert_check.specs.Private.Following.{IsLayout, IsSize}

-- Sums of sizes.

-- the sum of all sizes fits 32 bits
pub bytes_fit : (sizes : List ℕ) → All IsSize sizes → length sizes ≤ MOST_STATEMENTS → sum sizes < 2 ^ 32
bytes_fit sizes bytes few = let le = sum_by-le (λ x. x) MOST_BYTES sizes (λ k d lt. (bytes k d lt).1) in omega arith

at_least : (sizes : List ℕ) → All IsSize sizes → length sizes ≤ sum sizes
at_least [] bytes = omega arith
at_least (n ∷ ns) bytes =
    let one = All-head IsSize n ns bytes in
    let rest = at_least ns (All-tail IsSize n ns bytes) in
    omega (arith, sum_by-cons (λ (x : ℕ). x) n ns)

-- more than `limit` statements take more than `limit` bytes
pub too_many : (sizes : List ℕ) (limit : ℕ) → All IsSize sizes → limit < length sizes → MatchBool (nat_le (length sizes) limit) (sum sizes ≤ limit) (limit < sum sizes)
too_many sizes limit bytes lt = by_test (nat_le (length sizes) limit) refl
  where
    by_test : (b : Bool) → nat_le (length sizes) limit ≡ b → MatchBool b (sum sizes ≤ limit) (limit < sum sizes)
    by_test true e = let le = leb-true (length sizes) limit e in absurd (omega arith)
    by_test false e = let least = at_least sizes bytes in omega arith

-- the bytes from a to b are the difference of two sums
part : (sizes : List ℕ) (a b : ℕ) → a ≤ b → sum (take a sizes) + sum (take (b - a) (drop a sizes)) ≡ sum (take b sizes)
part sizes a b le =
    let whole = sum_by-take-drop (λ (x : ℕ). x) (take (a + (b - a)) sizes) a in
    let end : a + (b - a) ≡ b = omega arith in
    (rw (take-take a (a + (b - a)) sizes (omega arith), drop-take a (b - a) sizes) at whole) ∙ ap (λ n. sum (take n sizes)) end

ahead : (sizes : List ℕ) (k t : ℕ) → k < t → k < length sizes → get_or sizes k 0 ≡ 2 → sum (take t sizes) ≡ sum (take k sizes) + 2 + sum (take (t - (k + 1)) (drop (k + 1) sizes))
ahead sizes k t lt within short =
    let step = sum_by_more (λ (x : ℕ). x) sizes k 0 within in
    let whole = part sizes (k + 1) t (omega arith) in
    omega arith

-- if the target comes after the jump, the bytes between them say whether the jump reaches it
pub reached_ahead : (sizes : List ℕ) (k t : ℕ) (r : Bool) → k < t → k < length sizes → get_or sizes k 0 ≡ 2 → MatchBool r (sum (take (t - (k + 1)) (drop (k + 1) sizes)) ≤ 127) (127 < sum (take (t - (k + 1)) (drop (k + 1) sizes))) → MatchBool r (IsNear (sum (take k sizes)) (sum (take t sizes))) (¬ IsNear (sum (take k sizes)) (sum (take t sizes)))
reached_ahead sizes k t true lt within short near = let e = ahead sizes k t lt within short in (omega arith, omega arith)
reached_ahead sizes k t false lt within short far = λ near. (let e = ahead sizes k t lt within short in let high = near.1 in absurd (omega arith))

-- if the target comes first, the bytes from there to the jump say whether the jump reaches it
pub reached_back : (sizes : List ℕ) (k t : ℕ) (r : Bool) → t ≤ k → MatchBool r (sum (take (k - t) (drop t sizes)) ≤ 126) (126 < sum (take (k - t) (drop t sizes))) → MatchBool r (IsNear (sum (take k sizes)) (sum (take t sizes))) (¬ IsNear (sum (take k sizes)) (sum (take t sizes)))
reached_back sizes k t true le near = let e = part sizes t k le in (omega arith, omega arith)
reached_back sizes k t false le far = λ near. (let e = part sizes t k le in let low = near.0 in absurd (omega arith))

-- The bytes before a statement.

-- the sum of the sizes before a statement is what the choice takes up to there
pub sum_before : (c : Choice) (shape : List Statement) (sizes : List ℕ) → ((k : ℕ) → get_or sizes k 0 ≡ size_at c shape k) → (k : ℕ) → k ≤ length sizes → sum (take k sizes) ≡ bytes_before c shape k
unfolding bytes_before
sum_before c shape sizes each zero le = refl
sum_before c shape sizes each (suc k) le =
    let step = sum_by_more (λ (x : ℕ). x) sizes k 0 (omega arith) in
    let before = sum_before c shape sizes each k (omega arith) in
    let here = each k in
    let next : sum (take (suc k) sizes) ≡ sum (take (k + 1) sizes) = ap (λ n. sum (take n sizes)) (sym (add-one k)) in
    omega arith

pub all_bytes : (shape : List Statement) (long : List Bool) (sizes : List ℕ) → IsLayout shape long sizes → sum sizes ≡ total (chosen long) shape
all_bytes shape long sizes layout =
    sym (ap sum (take_all (length shape) sizes (omega (arith, layout.count)))) ∙ sum_before (chosen long) shape sizes layout.each (length shape) (omega (arith, layout.count))

pub all_fit : (shape : List Statement) (long : List Bool) (sizes : List ℕ) → IsLayout shape long sizes → sum sizes < 2 ^ 32
all_fit shape long sizes layout = bytes_fit sizes layout.bytes (omega (arith, layout.count, layout.is_shape.few))

module _ (shape : List Statement) (long : List Bool) (sizes : List ℕ) (layout : IsLayout shape long sizes) (k t : ℕ) (within : k < length shape) (target : t ≤ length shape) where
  places : (sum (take k sizes) ≡ bytes_before (chosen long) shape k) × (sum (take t sizes) ≡ bytes_before (chosen long) shape t)
  places =
      let count = layout.count in
      (sum_before (chosen long) shape sizes layout.each k (omega arith), sum_before (chosen long) shape sizes layout.each t (omega arith))

  pub reaches : IsNear (sum (take k sizes)) (sum (take t sizes)) → Reaches (chosen long) shape k t
  reaches near = let (from, to) = places in let (low, high) = near in (omega arith, omega arith)

  pub reached : Reaches (chosen long) shape k t → IsNear (sum (take k sizes)) (sum (take t sizes))
  reached near = let (from, to) = places in let (low, high) = near in (omega arith, omega arith)

  same_target : (u : ℕ) → IsShort shape k t ⊎ (IsJump shape k t × (chosen long k ≡ false)) → IsShort shape k u ⊎ (IsJump shape k u × (chosen long k ≡ false)) → u ≡ t
  same_target u (inl a) (inl b) = cc
  same_target u (inl a) (inr b) = let jump = b.0 in absurd (cc)
  same_target u (inr a) (inl b) = let jump = a.0 in absurd (cc)
  same_target u (inr a) (inr b) = let one = a.0 in let other = b.0 in cc

  -- a short jump that does not reach its target is still short
  pub still : (r : Bool) → IsShort shape k t ⊎ (IsJump shape k t × (chosen long k ≡ false)) → MatchBool r (IsNear (sum (take k sizes)) (sum (take t sizes))) (¬ IsNear (sum (take k sizes)) (sum (take t sizes))) → MatchBool (not r) (IsStillShort (chosen long) shape k) (¬ IsStillShort (chosen long) shape k)
  still true jump near = λ s. s.misses (subst (λ u. Reaches (chosen long) shape k u) (sym (same_target s.target jump s.jump)) (reaches near))
  still false jump far = record { target = t; jump = jump; misses = λ near. far (reached near) }

-- flags and the sizes that go with them are a layout
pub laid : (shape : List Statement) (long : List Bool) (sizes : List ℕ) → IsShape shape → length long ≡ length shape → length sizes ≡ length shape → ((k : ℕ) → k < length shape → get_or sizes k 0 ≡ size_at (chosen long) shape k) → All IsSize sizes → IsLayout shape long sizes
laid shape long sizes is_shape len count each bytes = record {
  is_shape = is_shape;
  len = len;
  count = count;
  each = λ k. elim (cases_lt k (length shape)) [
    | inl lt ↦ each k lt
    | inr ge ↦ get_or_past sizes k 0 (omega arith) ∙ sym (ap (λ o. option_map_or (size_of (chosen long k)) o 0) (slice_get_past shape k ge))
  ];
  bytes = bytes;
}

-- after one more jump becomes long, they still are
pub longer : (shape : List Statement) (long : List Bool) (sizes : List ℕ) (k t : ℕ) → IsLayout shape long sizes → IsJump shape k t → IsLayout shape (set long k true) (set sizes k 3)
longer shape long sizes k t layout jump =
    let within = slice_get_within shape k (Jump t) jump in
    record {
      is_shape = layout.is_shape;
      len = length-set long k true ∙ layout.len;
      count = length-set sizes k 3 ∙ layout.count;
      each = λ j. elim (cases_eq j k) [
        | inl e ↦ rw e (get_or-set_same sizes k 3 0 (omega (arith, layout.count)) ∙ sym (ap (λ o. option_map_or (size_of (get_or (set long k true) k false)) o 0) jump ∙ ap (λ b. size_of b (Jump t)) (get_or-set_same long k true false (omega (arith, layout.len)))))
        | inr ne ↦ get_or-set_other sizes k j 3 0 ne ∙ layout.each j ∙ sym (ap (λ b. option_map_or (size_of b) (slice_get shape j) 0) (get_or-set_other long k j true false ne))
      ];
      bytes = All-set IsSize sizes k 3 (omega arith, omega arith) layout.bytes;
    }
