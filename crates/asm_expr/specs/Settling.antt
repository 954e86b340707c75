-- What an expression is settled as: its first error, or its items with names replaced and each fixed part as its number.
-- In words: docs/LANGUAGE.md, section 'What is known when'.
use Rattle.std.specs.Prelude.{◌≡◌, ◌≤◌, ◌↔◌, length, [], ◌∷◌, ℕ, zero, suc, ◌+◌, Bool, true, false, List, Option, Some, None, Result, Ok, Err, if◌then◌else◌, nat_lt, is_some}
use Rattle.std.specs.List.{list_all}
use Rattle.std.specs.Option.{option_map}
use Rattle.asm_parse.specs.declared.fault.ExprFault.{ExprFault}
use Rattle.asm_parse.specs.declared.operator.Unary.{Unary}
use Rattle.asm_parse.specs.declared.operator.Binary.{Binary}
use Rattle.asm_parse.specs.declared.item.Item.{Item}
use Rattle.asm_parse.specs.declared.values.atom.Atom.{Atom}
use Rattle.asm_expr.specs.declared.answer.Settled.{Settled}
use Rattle.asm_expr.specs.declared.part.Part.{Part}
use Rattle.asm_expr.specs.declared.single.Single.{Single}
use Rattle.asm_expr.specs.declared.unknown.Unknown.{Unknown}
use Rattle.asm_expr.specs.declared.meaning.Meaning.{Meaning}
use Rattle.asm_parse.specs.declared.values.worth.Worth.{Worth}
use Rattle.asm_parse.specs.declared.values.expr.TheConstants.{MOST_ITEMS}
use Rattle.asm_parse.specs.Operators.{divides}
use Rattle.asm_parse.specs.Values.Arithmetic.{unary, binary}
use Rattle.asm_parse.specs.Expression.{Expression, Leaf, Prefix, Infix, postfix, and_then}
use Rattle.asm_parse.specs.Values.Postfix.{tree}
use Rattle.asm_parse.specs.Source.{Operand, Number, Name, Here}
use Rattle.asm_parse.specs.Values.Items.{IsExpr, value}
use Rattle.asm_expr.specs.Distances.{distance, some_distance, Step}
use Rattle.asm_expr.specs.Names.{Table, found}

-- While an expression is being settled, it may have one kind of leaf more than one of an object file: a part without a value.
abbrev pub part : Atom → Part
part (Atom.Number n) = Part.Number n
part (Atom.Ref r) = Part.Ref r

abbrev pub known : Expression Atom → Expression Part
known (Leaf atom) = Leaf (part atom)
known (Prefix op a) = Prefix op (known a)
known (Infix op a b) = Infix op (known a) (known b)

abbrev pub known_item : Item Atom → Item Part
known_item (Item.Leaf atom) = Item.Leaf (part atom)
known_item (Item.Unary op) = Item.Unary op
known_item (Item.Binary op) = Item.Binary op

abbrev pub standing : Settled → Expression Part
standing (Settled.Known items) = known (tree items)
standing (Settled.Unknown what) = Leaf (Part.Unknown what)

-- A name is replaced by what it stands for. (The caller has to see to it that it stands for something.)
abbrev pub meant : Option Meaning → Expression Part
meant (Some (Meaning.Label statement)) = Leaf (Part.Ref statement)
meant (Some (Meaning.External ref)) = Leaf (Part.Ref ref)
meant (Some (Meaning.Constant n)) = Leaf (Part.Number n)
meant (Some Meaning.UnknownConstant) = Leaf (Part.Unknown Unknown.Number)
meant (Some (Meaning.Equ equated)) = standing equated.settled
meant (Some Meaning.Faulty) = Leaf (Part.Unknown Unknown.Anything)
meant None = Leaf (Part.Unknown Unknown.Anything)

abbrev pub stands_for : Table → Operand → Expression Part
stands_for t (Number n) = Leaf (Part.Number n)
stands_for t (Name name) = meant (found t name)
stands_for t Here = Leaf (Part.Ref t.here)

abbrev pub replaced : Table → Expression Operand → Expression Part
replaced t (Leaf operand) = stands_for t operand
replaced t (Prefix op a) = Prefix op (replaced t a)
replaced t (Infix op a b) = Infix op (replaced t a) (replaced t b)

-- How many terms and operators a name stands for.
abbrev pub size_meant : Option Meaning → ℕ
size_meant (Some (Meaning.Equ equated)) = equated.size
size_meant _ = 1

abbrev pub operand_size : Table → Operand → ℕ
operand_size t (Name name) = size_meant (found t name)
operand_size t _ = 1

abbrev pub expression_size : Table → Expression Operand → ℕ
expression_size t (Leaf operand) = operand_size t operand
expression_size t (Prefix op a) = expression_size t a + 1
expression_size t (Infix op a b) = (expression_size t a + expression_size t b) + 1

-- Whether an expression is a single address, or may be one.
abbrev pub single : Expression Part → Single
single (Leaf (Part.Ref r)) = Single.Place r
single (Leaf (Part.Unknown Unknown.Anything)) = Single.Anything
single _ = Single.Other

abbrev pub distance_of : Table → Single → Single → Worth
distance_of t (Single.Place p) (Single.Place q) = distance t.statements p q
distance_of t (Single.Place p) Single.Anything = some_distance t.statements p
distance_of t Single.Anything (Single.Place q) = some_distance t.statements q
distance_of t _ _ = Worth.Varies

-- What is known of the difference of two single addresses: their distance. For any other operator or operands the answer is that it
-- varies.
abbrev pub difference : Table → Binary → Expression Part → Expression Part → Worth
difference t Binary.Subtract a b = distance_of t (single a) (single b)
difference t _ a b = Worth.Varies

abbrev pub or_else : Worth → Worth → Worth
or_else Worth.Varies other = other
or_else worth other = worth

-- The result of an operator varies if an operand does, and otherwise is not known if an operand is not known.
abbrev pub through : (ℕ → ℕ) → Worth → Worth
through f (Worth.Number a) = Worth.Number (f a)
through f other = other

abbrev pub both : (ℕ → ℕ → ℕ) → Worth → Worth → Worth
both f (Worth.Number a) other = through (f a) other
both f Worth.Unknown Worth.Varies = Worth.Varies
both f Worth.Unknown _ = Worth.Unknown
both f Worth.Varies other = Worth.Varies

abbrev pub worth_unknown : Unknown → Worth
worth_unknown Unknown.Anything = Worth.Unknown
worth_unknown Unknown.Number = Worth.Unknown
worth_unknown Unknown.Varies = Worth.Varies
worth_unknown Unknown.VariesInByte = Worth.Varies

-- What is known of an expression. It is a number if the expression is fixed and each part has a value: each address in it is in a
-- difference of two single addresses with no relaxable jump between them. It varies, if it does so whatever the parts without a
-- value are. Otherwise nothing is known.
abbrev pub worth : Table → Expression Part → Worth
worth t (Leaf (Part.Number n)) = Worth.Number n
worth t (Leaf (Part.Ref r)) = Worth.Varies
worth t (Leaf (Part.Unknown what)) = worth_unknown what
worth t (Prefix op a) = through (unary op) (worth t a)
worth t (Infix op a b) = or_else (difference t op a b) (both (binary op) (worth t a) (worth t b))

-- A fixed part becomes its number, or an unknown number.
abbrev pub leaf_or : Expression Part → Worth → Expression Part
leaf_or other (Worth.Number n) = Leaf (Part.Number n)
leaf_or other Worth.Unknown = Leaf (Part.Unknown Unknown.Number)
leaf_or other Worth.Varies = other

abbrev pub reduced : Table → Expression Part → Expression Part
reduced t (Leaf part) = Leaf part
reduced t (Prefix op a) = leaf_or (Prefix op (reduced t a)) (worth t (Prefix op a))
reduced t (Infix op a b) = leaf_or (Infix op (reduced t a) (reduced t b)) (worth t (Infix op a b))

-- the first of two errors, if there is one
abbrev pub first_of_two : Option ExprFault → Option ExprFault → Option ExprFault
first_of_two (Some fault) other = Some fault
first_of_two None other = other

-- A divisor has to be fixed, and not 0. One that is not known has no error.
abbrev pub divisor_fault : Worth → Option ExprFault
divisor_fault (Worth.Number (suc n)) = None
divisor_fault (Worth.Number zero) = Some ExprFault.DivideByZero
divisor_fault Worth.Unknown = None
divisor_fault Worth.Varies = Some ExprFault.LabelDivisor

abbrev pub division_fault : Table → Binary → Expression Part → Option ExprFault
division_fault t op divisor = if divides op then divisor_fault (worth t divisor) else None

-- The error of the first division, in postfix order, that has one.
abbrev pub divisions_fault : Table → Expression Part → Option ExprFault
divisions_fault t (Leaf part) = None
divisions_fault t (Prefix op a) = divisions_fault t a
divisions_fault t (Infix op a b) = first_of_two (divisions_fault t a) (first_of_two (divisions_fault t b) (division_fault t op b))

-- There may be no more terms and operators than `MOST_ITEMS`.
abbrev pub too_large : ℕ → Option ExprFault
too_large n = if nat_lt MOST_ITEMS n then Some ExprFault.TooLarge else None

-- The first error of an expression in postfix order, given how many terms and operators come before it.
abbrev pub fault_behind : ℕ → Table → Expression Operand → Option ExprFault
fault_behind n t (Leaf operand) = first_of_two (too_large (n + operand_size t operand)) (divisions_fault t (stands_for t operand))
fault_behind n t (Prefix op a) = first_of_two (fault_behind n t a) (too_large (n + expression_size t (Prefix op a)))
fault_behind n t (Infix op a b) =
    first_of_two (fault_behind n t a) (first_of_two (fault_behind (n + expression_size t a) t b) (first_of_two (too_large (n + expression_size t (Infix op a b))) (division_fault t op (replaced t b))))

abbrev pub fault : Table → Expression Operand → Option ExprFault
fault t e = fault_behind 0 t e

-- The items of an object file, if each part has a value.
abbrev pub known_by : Part → Option Atom
known_by (Part.Number n) = Some (Atom.Number n)
known_by (Part.Ref r) = Some (Atom.Ref r)
known_by (Part.Unknown what) = None

abbrev pub item_known : Item Part → Option (Item Atom)
item_known (Item.Leaf part) = option_map (λ atom. Item.Leaf atom) (known_by part)
item_known (Item.Unary op) = Some (Item.Unary op)
item_known (Item.Binary op) = Some (Item.Binary op)

abbrev pub items_known : List (Item Part) → Option (List (Item Atom))
items_known [] = Some []
items_known (x ∷ xs) = and_then (item_known x) (λ item. option_map (λ items. item ∷ items) (items_known xs))

-- What is known of a reduced expression that has a part without a value. It varies if it is not a single part.
abbrev pub unknown_of : Expression Part → Unknown
unknown_of (Leaf (Part.Unknown what)) = what
unknown_of (Prefix Unary.High a) = Unknown.VariesInByte
unknown_of (Prefix Unary.Low a) = Unknown.VariesInByte
unknown_of _ = Unknown.Varies

abbrev pub settled_as : Option (List (Item Atom)) → Unknown → Settled
settled_as (Some items) what = Settled.Known items
settled_as None what = Settled.Unknown what

abbrev pub unless_fault : Option ExprFault → Settled → Result Settled ExprFault
unless_fault None answer = Ok answer
unless_fault (Some why) answer = Err why

-- What an expression is settled as: its first error; or else its reduced items; or what is known of it, if a part has no value.
abbrev pub settled : Table → Expression Operand → Result Settled ExprFault
settled t e = let r = reduced t (replaced t e) in unless_fault (fault t e) (settled_as (items_known (postfix r)) (unknown_of r))

-- Whether a name stands for no address and no external. (An EQU name that is not constant has one of these in its expression. A
-- name whose own line has an error counts as constant, and so does one that stands for nothing.)
abbrev pub is_constant_name : Option Meaning → Bool
is_constant_name (Some (Meaning.Constant n)) = true
is_constant_name (Some Meaning.UnknownConstant) = true
is_constant_name (Some Meaning.Faulty) = true
is_constant_name None = true
is_constant_name _ = false

abbrev pub is_constant_item : Table → Item Operand → Bool
is_constant_item t (Item.Leaf (Name name)) = is_constant_name (found t name)
is_constant_item t (Item.Leaf Here) = false
is_constant_item t _ = true

-- The settled items are right. They make an expression, and there are no more of them than the whole stands for terms and
-- operators, which are 64 at most. They have the value of the whole at all addresses that step by each known size, as those of
-- every choice of jumps do from any beginning. They are one number exactly if the whole is fixed, and also if the whole contains no
-- address and no external.
pub record IsWorth (t : Table) (e : Expression Operand) (items : List (Item Atom)) : Type 0 where
  pub expr : IsExpr items
  pub short : length items ≤ expression_size t e
  pub small : expression_size t e ≤ MOST_ITEMS
  pub whole : Expression Atom
  pub known : replaced t e ≡ known whole
  pub value : (places : ℕ → ℕ) → Step t.statements places → value places (tree items) ≡ value places whole
  pub constant : list_all (is_constant_item t) (postfix e) ≡ true → (n : ℕ) × (items ≡ Item.Leaf (Atom.Number n) ∷ [])
  pub fixed : (n : ℕ) → (worth t (replaced t e) ≡ Worth.Number n) ↔ (items ≡ Item.Leaf (Atom.Number n) ∷ [])

-- The settled answer is right. If a part has no value, it says whether the whole varies whatever that value is.
abbrev pub IsWorthOf : Table → Expression Operand → Settled → Type 0
IsWorthOf t e (Settled.Known items) = IsWorth t e items
IsWorthOf t e (Settled.Unknown what) = worth t (replaced t e) ≡ worth_unknown what

-- Whether an item stands for something: it is no name, or a name in the table.
abbrev pub is_known : Table → Item Operand → Bool
is_known t (Item.Leaf (Name name)) = is_some (found t name)
is_known t _ = true
