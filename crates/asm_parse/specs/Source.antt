-- Expressions of a source.
use Rattle.std.specs.Prelude.{◌≡◌, ℕ, List}
use Rattle.asm_parse.specs.declared.item.Item.{Item}
use Rattle.asm_parse.specs.declared.item.TermView.{TermView}
use Rattle.asm_parse.specs.declared.item.Term.{Term}
use Rattle.asm_parse.specs.Expression.{Expression, postfix}

-- A leaf: a number, a name in upper case, or `$`.
pub data Operand : Type 0 where
  Number : ℕ → Operand
  Name : List ℕ → Operand
  Here : Operand

abbrev pub operand : Term → Operand
operand (Term.Number n) = Number n
operand (Term.Short name) = Name name
operand (Term.Long name) = Name name.value.items
operand Term.Here = Here

abbrev pub source_item : Item Term → Item Operand
source_item (Item.Leaf t) = Item.Leaf (operand t)
source_item (Item.Unary op) = Item.Unary op
source_item (Item.Binary op) = Item.Binary op

-- the leaf of a source that the code's view shows
abbrev pub view_operand : TermView → Operand
view_operand (TermView.Number n) = Number n
view_operand (TermView.Name name) = Name name.now
view_operand TermView.Here = Here

abbrev pub view_item : Item TermView → Item Operand
view_item (Item.Leaf t) = Item.Leaf (view_operand t)
view_item (Item.Unary op) = Item.Unary op
view_item (Item.Binary op) = Item.Binary op

-- These are the items of an expression, in postfix order.
pub record AreExpressionItems (items : List (Item Operand)) : Type 0 where
  pub expression : Expression Operand
  pub spelled : postfix expression ≡ items
