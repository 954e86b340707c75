-- The bytes of the file in the order of source lines.
use Rattle.std.proofs.Common.{◌≡◌, ◌∙◌, ◌<◌, ◌==◌, ◌&&◌, ◌||◌, ◌⊎◌, ℕ, true, false, List, filter, take, drop, sym, subst, arith, Less, is_lt, is_eq, inl, inr}
use Rattle.std.specs.Prelude.{nat_lt}
use Rattle.std.specs.List.{AllByRecursion, prefix_len}
use Rattle.std.specs.Cmp.{IsTotalOrder}
use Rattle.std.specs.List.Sorted.{IsSorted, IsStable}
use Rattle.std.specs.Ordering.{nat_cmp, ordering_then}
use Rattle.std.proofs.lemmas.Cmp.{nat_cmp_total, on_total, then_total}
use Rattle.std.proofs.lemmas.Bool.Decides.{nat_tests}
use Rattle.std.proofs.Math.Path.{fun_ext}
use Rattle.program_map.specs.declared.listings.cells.Cell.{Cell}
use Rattle.program_map.specs.Private.Runs.{Ascends, HasLines, IsBehind, is_before, is_on, line_cmp}
use Rattle.program_map.proofs.Listed.Order.{AtMost, all_from, ascending_from_sorted, like_from_stable, ascending_drop, filter_behind, front_like, is_like, is_under}

pub line_total : IsTotalOrder line_cmp
line_total = then_total (on_total (λ (c : Cell). c.source) nat_cmp_total) (on_total (λ (c : Cell). c.line) nat_cmp_total)

-- a cell on a line
abbrev pub cell_at : ℕ → ℕ → Cell
cell_at source line = record { source = source; line = line; number = 0; value = 0 }

eq_then : (a b c d : ℕ) → is_eq (ordering_then (nat_cmp a b) (nat_cmp c d)) ≡ ((b == a) && (d == c))
eq_then a b c d = grind (arith, nat_tests)

lt_then : (a b c d : ℕ) → is_lt (ordering_then (nat_cmp b a) (nat_cmp d c)) ≡ (nat_lt b a || ((b == a) && nat_lt d c))
lt_then a b c d = grind (arith, nat_tests)

less_then : (a b c d : ℕ) → (a < b) ⊎ ((a ≡ b) × (c < d)) → ordering_then (nat_cmp a b) (nat_cmp c d) ≡ Less
less_then a b c d (inl h) = grind (arith, nat_tests)
less_then a b c d (inr h) = grind (arith, nat_tests)

pub on_is : (source line : ℕ) → is_on source line ≡ is_like line_cmp line_total (cell_at source line)
on_is source line = fun_ext (λ c. sym (eq_then source c.source line c.line))

pub before_is : (source line : ℕ) → is_before source line ≡ is_under line_cmp line_total (cell_at source line)
before_is source line = fun_ext (λ c. sym (lt_then source c.source line c.line))

-- the cells of this line and the lines after it, and those of the lines after it
abbrev rest_at : ℕ → ℕ → List Cell → List Cell
rest_at source line cells = drop (prefix_len (is_before source line) cells) cells

abbrev behind : ℕ → ℕ → List Cell → List Cell
behind source line cells = let rest = rest_at source line cells in drop (prefix_len (is_on source line) rest) rest

not_on : (source line : ℕ) (c : Cell) → is_before source line c ≡ true → is_on source line c ≡ false
not_on source line c h = grind (arith, nat_tests)

not_behind : (source line other_source other_line : ℕ) → IsBehind source line other_source other_line → (c : Cell) → is_before source line c ≡ true → is_on other_source other_line c ≡ false
not_behind source line other_source other_line (inl less) c h = grind (arith, nat_tests)
not_behind source line other_source other_line (inr less) c h = grind (arith, nat_tests)

not_behind_on : (source line other_source other_line : ℕ) → IsBehind source line other_source other_line → (c : Cell) → is_on source line c ≡ true → is_on other_source other_line c ≡ false
not_behind_on source line other_source other_line (inl less) c h = grind (arith, nat_tests)
not_behind_on source line other_source other_line (inr less) c h = grind (arith, nat_tests)

pub own_is : (source line : ℕ) (cells : List Cell) → Ascends cells
    → take (prefix_len (is_on source line) (rest_at source line cells)) (rest_at source line cells) ≡ filter (is_on source line) cells
own_is source line cells up =
    let q = cell_at source line in
    let rest = rest_at source line cells in
    let from : AllByRecursion (AtMost line_cmp line_total q) rest =
    subst (λ p. AllByRecursion (AtMost line_cmp line_total q) (drop (prefix_len p cells) cells)) (sym (before_is source line)) (all_from line_cmp line_total q cells up) in
    let front : take (prefix_len (is_on source line) rest) rest ≡ filter (is_on source line) rest =
    subst (λ p. take (prefix_len p rest) rest ≡ filter p rest) (sym (on_is source line)) (front_like line_cmp line_total q rest from (ascending_drop line_cmp line_total (prefix_len (is_before source line) cells) cells up)) in
    front ∙ filter_behind (is_on source line) (is_before source line) (not_on source line) cells

pub others_are : (source line : ℕ) (cells : List Cell) → Ascends cells → HasLines (IsBehind source line) (behind source line cells) cells
others_are source line cells up = record {
  ascends =
      let passed = prefix_len (is_before source line) cells in
      let rest = rest_at source line cells in
      ascending_drop line_cmp line_total (prefix_len (is_on source line) rest) rest (ascending_drop line_cmp line_total passed cells up);
  lines = λ s l after.
      filter_behind (is_on s l) (is_on source line) (not_behind_on source line s l after) (rest_at source line cells)
      ∙ filter_behind (is_on s l) (is_before source line) (not_behind source line s l after) cells;
}

pub sorted_has : (all cells : List Cell) → IsSorted line_cmp cells → IsStable line_cmp all cells → HasLines (λ _ _. Unit {0}) cells all
sorted_has all cells sorted stable = record {
  ascends = ascending_from_sorted line_cmp line_total cells sorted;
  lines = λ source line _. subst (λ p. filter p cells ≡ filter p all) (sym (on_is source line)) (like_from_stable line_cmp line_total all cells stable (cell_at source line));
}
