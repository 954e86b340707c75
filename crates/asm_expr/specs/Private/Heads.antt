-- The items of operands that begin with `$`.
use Rattle.std.specs.Prelude.{◌≡◌, ◌≢◌, List, [], ◌∷◌, Bool, true, false, Option, Some, None}
use Rattle.asm_parse.specs.declared.item.Item.{Item}
use Rattle.asm_parse.specs.declared.operator.Binary.{Binary}
use Rattle.asm_parse.specs.Expression.{Expression, Leaf, Infix, postfix}
use Rattle.asm_parse.specs.Source.{Operand, Here}
use Rattle.asm_parse.specs.declared.values.atom.Atom.{Atom}
use Rattle.asm_expr.specs.declared.here.Offset.{Offset}
use Rattle.asm_parse.specs.Values.Arithmetic.{binary}

abbrev pub is_sum : Binary → Bool
is_sum Binary.Add = true
is_sum Binary.Subtract = true
is_sum _ = false

-- These are the items of `$+n` or `$-n`, and those of n.
pub record IsFromHere (op : Binary) (n : List (Item Operand)) (items : List (Item Operand)) : Type 0 where
  pub sum : is_sum op ≡ true
  pub tree : Expression Operand
  pub spelled : postfix tree ≡ n
  pub whole : postfix (Infix op (Leaf Here) tree) ≡ items

abbrev pub IsNotFromHere : List (Item Operand) → Type 0
IsNotFromHere items = (op : Binary) (n : Expression Operand) → is_sum op ≡ true → postfix (Infix op (Leaf Here) n) ≢ items

abbrev pub sign_of : Item Operand → Item Operand → Option Binary
sign_of (Item.Leaf Here) (Item.Binary Binary.Add) = Some Binary.Add
sign_of (Item.Leaf Here) (Item.Binary Binary.Subtract) = Some Binary.Subtract
sign_of _ _ = None

-- what an operand says, given the settled items of the whole
abbrev pub numbered : Binary → List (Item Atom) → Offset
numbered op (_ ∷ Item.Leaf (Atom.Number n) ∷ _ ∷ []) = Offset.Number (binary op 0 n)
numbered op _ = Offset.Unknown
