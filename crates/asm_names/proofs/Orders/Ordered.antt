-- When all definitions are in the order.
use Rattle.std.proofs.Common.{◌≡◌, ◌≢◌, ◌<◌, ◌≤◌, ◌∙◌, sym, ap, refl, ℕ, zero, suc, ◌+◌, ◌∷◌, List, [], Vec, length, arith}
use Rattle.std.specs.Global.{Global}
use Rattle.std.specs.List.{Contains, sum_by}
use Rattle.std.proofs.lemmas.List.Sums.{sum_by-cons}
use Rattle.asm_names.specs.declared.walk.Seen.{Seen}
use Rattle.asm_names.specs.declared.walk.Walk.{Walk}
use Rattle.asm_names.specs.Orders.Order.{named_by, turn_definitions, IsOrder}
use Rattle.asm_names.specs.Private.Standing.{Standing, not_seen, seen_at}

turn_of : (uses : List (Vec ℕ Global)) (w : Walk) → Standing uses w → w.path.items ≡ [] → (k : ℕ) (s : Seen) → seen_at w.seen.items k ≡ s → s ≢ Seen.Not → Contains (turn_definitions w.turns.items) k
turn_of uses w was empty k Seen.Not is ne = absurd (ne refl)
turn_of uses w was empty k (Seen.Open p) is ne = absurd (let h = (was.told.placed k p is).0 in omega (arith, h, ap length empty))
turn_of uses w was empty k Seen.Done is ne = was.told.turn k is

none_not : (seen : List Seen) → ((k : ℕ) → k < length seen → seen_at seen k ≢ Seen.Not) → sum_by not_seen seen ≡ 0
none_not [] all = refl
none_not (Seen.Not ∷ seen) all = absurd (all 0 (omega arith) refl)
none_not (Seen.Open p ∷ seen) all = (let h = none_not seen (λ k lt. all (suc k) (omega arith)) in omega (arith, h, sum_by-cons not_seen (Seen.Open p) seen))
none_not (Seen.Done ∷ seen) all = (let h = none_not seen (λ k lt. all (suc k) (omega arith)) in omega (arith, h, sum_by-cons not_seen Seen.Done seen))

pub ordered : (uses : List (Vec ℕ Global)) (w : Walk) → Standing uses w → w.path.items ≡ [] → ((k : ℕ) → k < length uses → seen_at w.seen.items k ≢ Seen.Not)
    → IsOrder (length uses) (named_by uses) w.turns.items
ordered uses w was empty seen = record {
  many =
      let none : sum_by not_seen w.seen.items ≡ 0 = none_not w.seen.items (λ k lt. seen k (omega (arith, lt, was.told.seen_all))) in
      omega (arith, none, was.told.counted, ap length empty);
  few = λ k has. (was.told.turned k has).0;
  all = λ k lt. turn_of uses w was empty k (seen_at w.seen.items k) refl (seen k lt);
  in_order = was.in_order;
}
