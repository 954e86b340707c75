-- Labels by name.
use Rattle.std.proofs.Common.{◌≡◌, ◌∙◌, Bool, true, false, cond, List, [], ◌∷◌, map, refl, ap, Ordering, is_lt}
use Rattle.std.specs.Borrow.{Bor}
use Rattle.std.specs.Cmp.{IsTotalOrder, IsStrictWeakOrder}
use Rattle.std.specs.Cmp.Lexicographic.{nat_list_cmp_total, slice_cmp}
use Rattle.std.specs.List.Sorted.{IsSorted, IsStable}
use Rattle.std.specs.Ordering.{nat_cmp}
use Rattle.std.proofs.lemmas.Cmp.{on_total}
use Rattle.std.proofs.lemmas.List.Sorted.{ranks_by}
use Rattle.zlink.specs.declared.symbol.Symbol as symbol
use Rattle.zlink.specs.Linked.{symbol_of}
use Rattle.program_map.specs.Listings.Symbols as spec
use Rattle.program_map.proofs.Listed.Order.{inserted, sorted, stable_is}

abbrev pub name_cmp : Bor symbol.Symbol → Bor symbol.Symbol → Ordering
name_cmp a b = slice_cmp nat_cmp a.now.name.items b.now.name.items

pub name_total : IsTotalOrder name_cmp
name_total = on_total (λ (s : Bor symbol.Symbol). s.now.name.items) nat_list_cmp_total

pub name_weak : IsStrictWeakOrder (λ a b. is_lt (name_cmp a b))
name_weak = ranks_by nat_list_cmp_total (λ (s : Bor symbol.Symbol). s.now.name.items)

inserted_is : (s : Bor symbol.Symbol) (ts : List (Bor symbol.Symbol))
    → map (λ s. symbol_of s.now) (inserted name_cmp name_total s ts) ≡ spec.inserted (symbol_of s.now) (map (λ s. symbol_of s.now) ts)
inserted_is s [] = refl
inserted_is s (t ∷ ts) = go (is_lt (name_cmp t s)) (inserted_is s ts)
  where
    go : (b : Bool) → map (λ s. symbol_of s.now) (inserted name_cmp name_total s ts) ≡ spec.inserted (symbol_of s.now) (map (λ s. symbol_of s.now) ts)
        → map (λ s. symbol_of s.now) (cond b (t ∷ inserted name_cmp name_total s ts) (s ∷ t ∷ ts))
        ≡ cond b (symbol_of t.now ∷ spec.inserted (symbol_of s.now) (map (λ s. symbol_of s.now) ts)) (symbol_of s.now ∷ symbol_of t.now ∷ map (λ s. symbol_of s.now) ts)
    go true more = ap (λ ss. symbol_of t.now ∷ ss) more
    go false more = refl

sorted_is : (xs : List (Bor symbol.Symbol)) → map (λ s. symbol_of s.now) (sorted name_cmp name_total xs) ≡ spec.by_name (map (λ s. symbol_of s.now) xs)
sorted_is [] = refl
sorted_is (x ∷ xs) = inserted_is x (sorted name_cmp name_total xs) ∙ ap (spec.inserted (symbol_of x.now)) (sorted_is xs)

pub by_name_is : (xs ys : List (Bor symbol.Symbol)) → IsSorted name_cmp ys → IsStable name_cmp xs ys
    → map (λ s. symbol_of s.now) ys ≡ spec.by_name (map (λ s. symbol_of s.now) xs)
by_name_is xs ys in_order stable = ap (map (λ s. symbol_of s.now)) (stable_is name_cmp name_total xs ys in_order stable) ∙ sorted_is xs

pub now_then : (xs : List (Bor symbol.Symbol)) → map (λ s. symbol_of s.now) xs ≡ map symbol_of (map (λ s. s.now) xs)
now_then [] = refl
now_then (x ∷ xs) = ap (λ ss. symbol_of x.now ∷ ss) (now_then xs)
