-- How many values items leave.
use Rattle.std.proofs.Common.{◌≡◌, ◌≤◌, ℕ, List, [], length, drop}
use Rattle.asm_parse.specs.Types.{Item}
use Rattle.asm_parse.specs.Expression.{Expression}
use Rattle.asm_parse.specs.Values.Postfix.{run}

-- The first `read` items of a list have been read, and `left` values are left.
pub record Leaves {L : Type 0} (items : List (Item L)) (read left : ℕ) : Type 0 where
  pub values : List (Expression L)
  pub runs : run (drop read items) values ≡ run items []
  pub count : left ≡ length values
  pub few : left ≤ read
