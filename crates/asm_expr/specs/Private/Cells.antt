-- How the code keeps items that are being settled.
use Rattle.std.specs.Prelude.{◌≡◌, ◌≤◌, ◌-◌, Bool, true, false, List, [], ◌∷◌, length, map}
use Rattle.std.proofs.Common.{get_or}
use Rattle.asm_parse.specs.declared.item.Item.{Item}
use Rattle.asm_parse.specs.declared.values.atom.Atom.{Atom}
use Rattle.asm_parse.specs.Values.Items.{IsExpr}
use Rattle.asm_expr.specs.declared.part.Part.{Part}
use Rattle.asm_expr.specs.declared.parts.Cell.{Cell}
use Rattle.asm_expr.specs.Settling.{known_item}

-- the items of a cell
abbrev pub opened : Cell → List (Item Part)
opened (Cell.Item item) = item ∷ []
opened (Cell.List list) = map known_item list.now.value.items

-- The items make an expression that is more than a leaf, and so end with an operator.
abbrev pub IsOperation : List (Item Atom) → Type 0
IsOperation items = IsExpr items × (2 ≤ length items)

-- If a cell is a list, its items make such an expression.
abbrev pub IsSound : Cell → Type 0
IsSound (Cell.Item item) = Unit {0}
IsSound (Cell.List list) = IsOperation list.now.value.items

abbrev pub is_leaf : Item Part → Bool
is_leaf (Item.Leaf part) = true
is_leaf _ = false

-- The last item is a leaf.
abbrev pub EndsInLeaf : List (Item Part) → Type 0
EndsInLeaf items = (d : Item Part) → is_leaf (get_or items (length items - 1) d) ≡ true
