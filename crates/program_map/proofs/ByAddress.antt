-- Names by address.
use Rattle.std.proofs.Common.{◌≡◌, ◌∙◌, Bool, true, false, cond, List, [], ◌∷◌, map, refl, ap, Ordering, is_lt}
use Rattle.std.specs.Cmp.{IsTotalOrder, IsStrictWeakOrder}
use Rattle.std.specs.List.Sorted.{IsSorted, IsStable}
use Rattle.std.specs.Ordering.{nat_cmp}
use Rattle.std.proofs.lemmas.Cmp.{nat_cmp_total, on_total}
use Rattle.std.proofs.lemmas.List.Sorted.{ranks_by}
use Rattle.program_map.specs.declared.naming.PlacedName.{PlacedName}
use Rattle.program_map.specs.Named.{named_of}
use Rattle.program_map.specs.Named as spec
use Rattle.program_map.proofs.Order.{inserted, sorted, stable_is}

abbrev pub place_cmp : PlacedName → PlacedName → Ordering
place_cmp a b = nat_cmp a.place b.place

pub place_total : IsTotalOrder place_cmp
place_total = on_total (λ (n : PlacedName). n.place) nat_cmp_total

pub place_weak : IsStrictWeakOrder (λ a b. is_lt (place_cmp a b))
place_weak = ranks_by nat_cmp_total (λ (n : PlacedName). n.place)

inserted_is : (n : PlacedName) (ms : List PlacedName) → map named_of (inserted place_cmp place_total n ms) ≡ spec.put_by_address (named_of n) (map named_of ms)
inserted_is n [] = refl
inserted_is n (m ∷ ms) = go (is_lt (place_cmp m n)) (inserted_is n ms)
  where
    go : (b : Bool) → map named_of (inserted place_cmp place_total n ms) ≡ spec.put_by_address (named_of n) (map named_of ms)
        → map named_of (cond b (m ∷ inserted place_cmp place_total n ms) (n ∷ m ∷ ms))
        ≡ cond b (named_of m ∷ spec.put_by_address (named_of n) (map named_of ms)) (named_of n ∷ named_of m ∷ map named_of ms)
    go true more = ap (λ ns. named_of m ∷ ns) more
    go false more = refl

sorted_is : (ns : List PlacedName) → map named_of (sorted place_cmp place_total ns) ≡ spec.by_address (map named_of ns)
sorted_is [] = refl
sorted_is (n ∷ ns) = inserted_is n (sorted place_cmp place_total ns) ∙ ap (spec.put_by_address (named_of n)) (sorted_is ns)

pub by_address_is : (ns ms : List PlacedName) → IsSorted place_cmp ms → IsStable place_cmp ns ms → map named_of ms ≡ spec.by_address (map named_of ns)
by_address_is ns ms in_order stable = ap (map named_of) (stable_is place_cmp place_total ns ms in_order stable) ∙ sorted_is ns
