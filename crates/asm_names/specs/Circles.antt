-- Which EQU lines lead back to themselves.
use Rattle.std.specs.Prelude.{◌≡◌, ◌↔◌, ◌<◌, ℕ, Bool, true, List, [], Option, Some, None, length, slice_get}
use Rattle.std.specs.List.{filter_map}
use Rattle.std.specs.Option.{option_map_or}
use Rattle.asm_parse.specs.declared.item.Item.{Item}
use Rattle.asm_parse.specs.Source.{Operand, Name}
use Rattle.asm_spell.specs.Line.{ExpressionItems, Line, Equ}
use Rattle.asm_names.specs.Orders.Circles.{IsOnCircle}
use Rattle.asm_names.specs.declared.kind.Kind.{Kind}
use Rattle.asm_names.specs.Lines.{Taken}
use Rattle.asm_names.specs.Names.{Names, kind_of_name}

-- the name in an item of an expression, if it is one
abbrev pub name_in : Item Operand → Option (List ℕ)
name_in (Item.Leaf (Name name)) = Some name
name_in _ = None

abbrev pub names_in : ExpressionItems → List (List ℕ)
names_in e = filter_map name_in e

-- the items of an EQU line's expression; no items for any other line
abbrev pub equ_items : Line → ExpressionItems
equ_items (Equ name e) = e
equ_items _ = []

abbrev pub items_at : List Taken → ℕ → ExpressionItems
items_at lines at = option_map_or (λ l. equ_items l.line) (slice_get lines at) []

-- the index of the EQU line that defines a name, if one does
abbrev pub equ_line : Option Kind → Option ℕ
equ_line (Some (Kind.Equ at)) = Some at
equ_line _ = None

-- the index of the EQU line that defines the name in an item of an expression
abbrev pub line_named : Names → Item Operand → Option ℕ
line_named names (Item.Leaf (Name name)) = equ_line (kind_of_name names name)
line_named names _ = None

-- the EQU lines whose names the expression in line `at` uses
abbrev pub lines_named : Names → List Taken → ℕ → List ℕ
lines_named names lines at = filter_map (line_named names) (items_at lines at)

-- `circle` is true exactly for the lines that lead back to themselves.
abbrev pub TellsCircles : Names → List Taken → (ℕ → Bool) → Type 0
TellsCircles names lines circle = (at : ℕ) → at < length lines → (circle at ≡ true) ↔ IsOnCircle (lines_named names lines) at
