-- Expressions as trees, and their items in postfix order.
-- In words: docs/LANGUAGE.md, section 'Expressions'.
use Rattle.std.specs.Prelude.{◌++◌, List, [], ◌∷◌, Option, Some, None}
use Rattle.asm_parse.specs.declared.operator.Unary.{Unary}
use Rattle.asm_parse.specs.declared.operator.Binary.{Binary}
use Rattle.asm_parse.specs.declared.item.Item.{Item}

-- An expression: a leaf, or an operator with its operands.
pub data Expression (L : Type 0) : Type 0 where
  Leaf : L → Expression L
  Prefix : Unary → Expression L → Expression L
  Infix : Binary → Expression L → Expression L → Expression L

-- the items of an expression in postfix order: each operator comes after its operands
abbrev pub postfix : {L : Type 0} → Expression L → List (Item L)
postfix (Leaf l) = Item.Leaf l ∷ []
postfix (Prefix op a) = postfix a ++ Item.Unary op ∷ []
postfix (Infix op a b) = (postfix a ++ postfix b) ++ Item.Binary op ∷ []

abbrev pub and_then : {A B : Type 0} → Option A → (A → Option B) → Option B
and_then None f = None
and_then (Some x) f = f x
