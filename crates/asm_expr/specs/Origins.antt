-- What names and `$` bring into an expression: where its refs come from, when it is a number, and that other names do not matter.
use Rattle.std.specs.Prelude.{◌≡◌, ℕ, Bool, true, false, List, Option, Some, All}
use Rattle.std.specs.List.{Contains}
use Rattle.asm_parse.specs.declared.item.Item.{Item}
use Rattle.asm_parse.specs.Source.{Operand, Name, Here}
use Rattle.asm_expr.specs.declared.answer.Settled.{Settled}
use Rattle.asm_expr.specs.declared.meaning.Meaning.{Meaning}
use Rattle.asm_parse.specs.Values.Items.{refs}
use Rattle.asm_expr.specs.Names.{Table, found}

-- Each ref in a settled expression has the property.
abbrev pub AreRefs : (ℕ → Type 0) → Settled → Type 0
AreRefs P (Settled.Known items) = All P (refs items)
AreRefs P (Settled.Unknown what) = Unit {0}

-- Each ref that a name stands for has the property.
abbrev pub Brings : (ℕ → Type 0) → Meaning → Type 0
Brings P (Meaning.Label statement) = P statement
Brings P (Meaning.External ref) = P ref
Brings P (Meaning.Equ equated) = AreRefs P equated.settled
Brings P _ = Unit {0}

-- The ref of `$` has the property, and so does each ref that a name of the table stands for.
pub record AllBring (P : ℕ → Type 0) (t : Table) : Type 0 where
  pub here : P t.here
  pub names : (name : List ℕ) (what : Meaning) → found t name ≡ Some what → Brings P what

-- Two tables agree on `$`, on the statements, and on each name that occurs in these items.
pub record AgreeOn (items : List (Item Operand)) (t u : Table) : Type 0 where
  pub here : t.here ≡ u.here
  pub statements : t.statements ≡ u.statements
  pub names : (name : List ℕ) → Contains items (Item.Leaf (Name name)) → found t name ≡ found u name

-- A name stands for a number.
abbrev pub is_number_name : Option Meaning → Bool
is_number_name (Some (Meaning.Constant n)) = true
is_number_name _ = false

abbrev pub is_number_item : Table → Item Operand → Bool
is_number_item t (Item.Leaf (Name name)) = is_number_name (found t name)
is_number_item t (Item.Leaf Here) = false
is_number_item t _ = true

-- A settled expression has a value.
abbrev pub is_value : Settled → Bool
is_value (Settled.Known items) = true
is_value (Settled.Unknown what) = false

-- A name stands for a value: an address, an external, a number, or an expression with a value.
abbrev pub is_valued_name : Option Meaning → Bool
is_valued_name (Some (Meaning.Label statement)) = true
is_valued_name (Some (Meaning.External ref)) = true
is_valued_name (Some (Meaning.Constant n)) = true
is_valued_name (Some (Meaning.Equ equated)) = is_value equated.settled
is_valued_name _ = false

abbrev pub is_valued_item : Table → Item Operand → Bool
is_valued_item t (Item.Leaf (Name name)) = is_valued_name (found t name)
is_valued_item t _ = true
