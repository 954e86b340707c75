-- Expressions of one term.
use Rattle.std.specs.Prelude.{ℕ, List, [], ◌∷◌, Option, Some, None}
use Rattle.asm_parse.specs.declared.item.Item.{Item}
use Rattle.asm_parse.specs.Source.{Operand, Number, Name, Here}
use Rattle.asm_parse.specs.declared.values.atom.Atom.{Atom}
use Rattle.asm_expr.specs.declared.meaning.Meaning.{Meaning}
use Rattle.asm_expr.specs.Names.{Table, found}

-- the number or ref that a name stands for; None if it has no value or stands for an expression
abbrev pub atom_meant : Option Meaning → Option Atom
atom_meant (Some (Meaning.Label r)) = Some (Atom.Ref r)
atom_meant (Some (Meaning.External r)) = Some (Atom.Ref r)
atom_meant (Some (Meaning.Constant n)) = Some (Atom.Number n)
atom_meant _ = None

abbrev pub atom_of : Table → Operand → Option Atom
atom_of t (Number n) = Some (Atom.Number n)
atom_of t (Name name) = atom_meant (found t name)
atom_of t Here = Some (Atom.Ref t.here)

-- the number or ref that an expression of one term stands for
abbrev pub atom_alone : Table → List (Item Operand) → Option Atom
atom_alone t (Item.Leaf operand ∷ []) = atom_of t operand
atom_alone t _ = None

abbrev pub atom_number : Option Atom → Option ℕ
atom_number (Some (Atom.Number n)) = Some n
atom_number _ = None

-- the number that an expression of one term stands for
abbrev pub number_alone : Table → List (Item Operand) → Option ℕ
number_alone t items = atom_number (atom_alone t items)
