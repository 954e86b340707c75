-- Which expression some bytes are: its items in postfix order.
use Rattle.std.specs.Prelude.{ℕ, zero, suc, ◌-◌, ◌+◌, ◌*◌, ◌==◌, if◌then◌else◌, nat_lt, List, [], ◌∷◌, Option, Some, None, slice_get}
use Rattle.std.specs.Option.{option_map, option_and_then}
use Rattle.asm_parse.specs.declared.item.Item.{Item}
use Rattle.asm_parse.specs.declared.values.atom.Atom.{Atom}
use Rattle.asm_parse.specs.declared.values.expr.TheConstants.{MOST_ITEMS}
use Rattle.asm_parse.specs.Private.Steps.{is_expr}
use Rattle.zmo_object.specs.declared.operator.TheConstants.{BINARIES, UNARIES}

-- the operator that has this code
abbrev pub operator_of : ℕ → Option (Item Atom)
operator_of code =
    if nat_lt code 0x10 then None
    else if nat_lt code 0x20 then option_map Item.Unary (slice_get UNARIES (code - 0x10))
    else option_map Item.Binary (slice_get BINARIES (code - 0x20))

-- the number of a leaf, and the bytes after it
abbrev pub leaf_at : List ℕ → Option (ℕ × List ℕ)
leaf_at (low ∷ high ∷ rest) = Some (low + 256 * high, rest)
leaf_at _ = None

-- the item at the front, and the bytes after it
abbrev pub item_at : List ℕ → Option (Item Atom × List ℕ)
item_at [] = None
item_at (code ∷ rest) =
    if code == 1 then option_map (λ x. (Item.Leaf (Atom.Number x.0), x.1)) (leaf_at rest)
    else if code == 2 then option_map (λ x. (Item.Leaf (Atom.Ref x.0), x.1)) (leaf_at rest)
    else option_map (λ op. (op, rest)) (operator_of code)

-- the items if no bytes are left, otherwise None
abbrev pub whole : List (Item Atom) → List ℕ → Option (List (Item Atom))
whole items [] = Some items
whole items (b ∷ rest) = None

-- the items that the bytes are, at most this many; None if the bytes are anything else
unfoldable pub items_within : ℕ → List ℕ → Option (List (Item Atom))
items_within zero bytes = whole [] bytes
items_within (suc most) [] = Some []
items_within (suc most) (b ∷ bytes) = option_and_then (λ x. option_map (λ more. x.0 ∷ more) (items_within most x.1)) (item_at (b ∷ bytes))

abbrev pub items_of : List ℕ → Option (List (Item Atom))
items_of bytes = items_within MOST_ITEMS bytes

abbrev pub expr_of : List ℕ → Option (List (Item Atom))
expr_of bytes = option_and_then (λ items. if is_expr items then Some items else None) (items_of bytes)
