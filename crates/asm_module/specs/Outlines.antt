-- The outline of a source: what its names stand for, and where its statements are.
use Rattle.std.specs.Prelude.{◌≡◌, ℕ, Bool, List, [], length}
use Rattle.asm_expr.specs.Names.{Table}
use Rattle.asm_names.specs.Circles.{TellsCircles, lines_named}
use Rattle.asm_names.specs.Layout.{Layout, layout_of}
use Rattle.asm_names.specs.Lines.{Taken}
use Rattle.asm_names.specs.Meanings.{name_meanings, table_at}
use Rattle.asm_names.specs.Names.{names}
use Rattle.asm_names.specs.Orders.Order.{IsOrder}
use Rattle.asm_names.specs.Settles.{Settles, is_marked_circular}
use Rattle.asm_module.specs.declared.statements.outlining.Outline.{Outline}
use Rattle.asm_module.specs.Layouts.Laid.{laid}

-- the layout before any statement is laid out
abbrev pub no_layout : Layout
no_layout = record { next = []; statements = [] }

-- What names stand for, given which lines lead back to themselves.
abbrev pub source_table : List Taken → (ℕ → Bool) → Layout → Table
source_table lines circle layout = table_at layout (name_meanings (names lines) lines circle layout) 0

-- Which statements the lines have, by size. Sizes depend only on constants, so they are known before addresses are.
abbrev pub layout : Bool → List Taken → (ℕ → Bool) → Layout
layout grow lines circle = laid grow (source_table lines circle no_layout) lines

-- which lines lead back to themselves, as an outline marks them
abbrev pub circle_of : Outline → ℕ → Bool
circle_of o = is_marked_circular o.turns.items

-- what the names of these lines stand for, given their outline
abbrev pub outline_table : List Taken → Outline → Table
outline_table lines o = source_table lines (circle_of o) (layout_of o.layout)

-- This is the outline of the lines. It orders them and marks exactly those that lead back to themselves, its layout is theirs, and by this
-- layout it says what their names stand for.
pub record IsOutline (grow : Bool) (lines : List Taken) (o : Outline) : Type 0 where
  pub orders : IsOrder (length lines) (lines_named (names lines) lines) o.turns.items
  pub tells : TellsCircles (names lines) lines (circle_of o)
  pub lays : layout_of o.layout ≡ layout grow lines (circle_of o)
  pub settles : Settles (names lines) lines (circle_of o) (layout_of o.layout) o.settled
