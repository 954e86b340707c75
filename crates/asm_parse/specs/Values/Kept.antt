-- The items of an expression as the code keeps them.
use Rattle.std.specs.Prelude.{List}
use Rattle.std.specs.List.{flat_map}
use Rattle.asm_parse.specs.declared.item.Item.{Item}
use Rattle.asm_parse.specs.declared.values.atom.Atom.{Atom}
use Rattle.asm_parse.specs.declared.values.kept.Piece.{Piece}
use Rattle.asm_parse.specs.declared.values.kept.Kept.{Kept}

abbrev pub items_in : Piece → List (Item Atom)
items_in (Piece.One alone) = alone
items_in (Piece.Shared items) = items.value.items

abbrev pub kept : Kept → List (Item Atom)
kept (Kept.One alone) = alone
kept (Kept.Many items) = items.items
kept (Kept.Shared items) = items.value.items
kept (Kept.Pieces pieces) = flat_map items_in pieces.items
