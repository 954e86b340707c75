use Rattle.std.specs.Prelude.{◌≡◌, ℕ, ◌<◌, false, List, length, slice_index, take, ◌==◌}
use Rattle.std.specs.List.{list_any}
use Rattle.cert_check.specs.FileTypes.{Statement}
use Rattle.cert_check.specs.Choice.{Choice, IsJump, Reaches}

-- Jumps that become long one after the other, each because it does not reach its target. Whoever follows such an order
-- sees that each of its members has to be long, whatever else is chosen.

-- the choice that is long exactly at the members of a list
abbrev pub after : List ℕ → Choice
after order k = list_any (λ j. j == k) order

-- jump j is short and does not reach its target
pub record Misses (c : Choice) (shape : List Statement) (j : ℕ) : Type 0 where
  pub target : ℕ
  pub jump : IsJump shape j target
  pub short : c j ≡ false
  pub misses : ¬ Reaches c shape j target

-- each member misses its target once those before it are long, so no member occurs twice
abbrev pub IsForcing : List Statement → List ℕ → Type 0
IsForcing shape order = (i : ℕ) → i < length order → Misses (after (take i order)) shape (slice_index order i)
