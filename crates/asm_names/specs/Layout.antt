-- Where the statements of a source are, as far as its names depend on it.
use Rattle.std.specs.Prelude.{ℕ, List, slice_index}
use Rattle.asm_expr.specs.Types.{Statement}
use Rattle.asm_names.specs.declared.layout.Layout as layout

-- the statements in order; and for each line, the number of the first statement in it or after it
pub record Layout : Type 0 where
  pub next : List ℕ
  pub statements : List Statement

abbrev pub next_at : Layout → ℕ → ℕ
next_at layout at = slice_index layout.next at

-- a layout of the code in these terms
abbrev pub layout_of : layout.Layout → Layout
layout_of l = record { next = l.next.items; statements = l.statements.items }
