-- Expressions that settling leaves as they are.
use Rattle.std.specs.Prelude.{◌≡◌, ◌≤◌, ℕ, List, [], ◌∷◌, Option, Some, None}
use Rattle.asm_parse.specs.declared.item.Item.{Item}
use Rattle.asm_parse.specs.Expression.{Expression}
use Rattle.asm_parse.specs.Source.{Operand, Name}
use Rattle.asm_parse.specs.declared.values.atom.Atom.{Atom}
use Rattle.asm_expr.specs.declared.answer.Settled.{Settled}
use Rattle.asm_parse.specs.declared.values.expr.TheConstants.{MOST_ITEMS}
use Rattle.asm_expr.specs.declared.meaning.Meaning.{Meaning}
use Rattle.asm_expr.specs.declared.part.Part.{Part}
use Rattle.asm_parse.specs.Values.Items.{IsExpr}
use Rattle.asm_expr.specs.Names.{Table, found}
use Rattle.asm_parse.specs.Values.Postfix.{tree}
use Rattle.asm_expr.specs.Settling.{divisions_fault, known, reduced}

-- No division in the expression has an error, and each fixed part is its number already.
pub record IsReducedTree (t : Table) (e : Expression Part) : Type 0 where
  pub sound : divisions_fault t e ≡ None
  pub same : reduced t e ≡ e

-- Settling leaves the expression of these items as it is.
pub record IsLeft (t : Table) (items : List (Item Atom)) : Type 0 where
  pub expr : IsExpr items
  pub reduced : IsReducedTree t (known (tree items))

-- The name stands for these items, which are not too many, and settling leaves them as they are.
pub record IsLeftName (t : Table) (name : List ℕ) (items : List (Item Atom)) : Type 0 where
  pub size : ℕ
  pub few : size ≤ MOST_ITEMS
  pub found : found t name ≡ Some (Meaning.Equ (record { settled = Settled.Known items; size = size }))
  pub left : IsLeft t items

-- The operand is a name for which that holds.
abbrev pub IsLeftOperand : Table → Operand → List (Item Atom) → Type 0
IsLeftOperand t (Name name) items = IsLeftName t name items
IsLeftOperand t _ items = ⊥

-- the operand of an expression of one term
abbrev pub operand_alone : List (Item Operand) → Option Operand
operand_alone (Item.Leaf o ∷ []) = Some o
operand_alone _ = None
