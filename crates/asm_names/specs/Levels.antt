-- The value of an expression of a source, level by level: a name that EQU defines has the value of the expression in its own line, and so on
-- for the names in that one. Nothing is replaced or computed beforehand. A name on a circle of EQU lines has no value. The law
-- `laws::level_by_level` says that the names of a source stand for these values, where they have one.
-- In words: docs/LANGUAGE.md, sections 'EQU' and 'Expressions'.
use Rattle.std.specs.Prelude.{◌≡◌, ℕ, ◌%◌, List, Some}
use Rattle.asm_parse.specs.declared.operator.Unary.{Unary}
use Rattle.asm_parse.specs.declared.operator.Binary.{Binary}
use Rattle.asm_parse.specs.Expression.{Expression, Leaf, Prefix, Infix}
use Rattle.asm_parse.specs.Source.{Operand, Number, Name, Here}
use Rattle.asm_expr.specs.Below.{modulus, unary, binary, source_tree}
use Rattle.asm_names.specs.declared.kind.Kind.{Kind}
use Rattle.asm_names.specs.Circles.{items_at}
use Rattle.asm_names.specs.Layout.{Layout, next_at}
use Rattle.asm_names.specs.Lines.{Taken}
use Rattle.asm_names.specs.Meanings.{external_ref}
use Rattle.asm_names.specs.Names.{Names, kind_of_name}

-- An expression in the line with index `at`, from 0, has this value. `places` gives the address of each ref: of each statement, of the end, and
-- of each external. `layout` says for each line which statement is the first in it or after it. Addresses count modulo 65,536, and so does
-- what operators make; a number in a source is below that.
pub data HasValue (names : Names) (lines : List Taken) (layout : Layout) (places : ℕ → ℕ) : ℕ → Expression Operand → ℕ → Type 0 where
  -- a number is its own value
  number : {at n : ℕ} → HasValue names lines layout places at (Leaf (Number n)) n
  -- `$` is the address of the first statement in the line or after it
  here : {at : ℕ} → HasValue names lines layout places at (Leaf Here) (places (next_at layout at) % modulus)
  -- a label is the address of the first statement in its own line or after it
  label : {at line : ℕ} {name : List ℕ} → kind_of_name names name ≡ Some (Kind.Label line)
      → HasValue names lines layout places at (Leaf (Name name)) (places (next_at layout line) % modulus)
  -- an external is the address that the linker finds for it
  external : {at : ℕ} {name : List ℕ} → kind_of_name names name ≡ Some Kind.External
      → HasValue names lines layout places at (Leaf (Name name)) (places (external_ref names layout name) % modulus)
  -- a name that EQU defines has the value of the expression in its own line, where `$` means that line and not the one that uses the name
  equ : {at line n : ℕ} {name : List ℕ} → kind_of_name names name ≡ Some (Kind.Equ line) → HasValue names lines layout places line (source_tree (items_at lines line)) n
      → HasValue names lines layout places at (Leaf (Name name)) n
  -- an operator takes the values of its operands (a division by 0 counts as 0 here; in a source it is an error)
  one_operand : {at n : ℕ} {op : Unary} {a : Expression Operand} → HasValue names lines layout places at a n → HasValue names lines layout places at (Prefix op a) (unary op n)
  two_operands : {at m n : ℕ} {op : Binary} {a b : Expression Operand} → HasValue names lines layout places at a m → HasValue names lines layout places at b n
      → HasValue names lines layout places at (Infix op a b) (binary op m n)
