-- How the code reduces an expression, item by item.
use Rattle.std.specs.Prelude.{◌≡◌, ℕ, ◌+◌, ◌-◌, List, [], ◌∷◌, Option, Some, None, Result, Ok, Err, if◌then◌else◌, length, slice_get}
use Rattle.common.specs.Results.{◌>>=◌}
use Rattle.asm_parse.specs.declared.fault.ExprFault.{ExprFault}
use Rattle.asm_parse.specs.declared.operator.Unary.{Unary}
use Rattle.asm_parse.specs.declared.operator.Binary.{Binary}
use Rattle.asm_parse.specs.declared.item.Item.{Item}
use Rattle.asm_expr.specs.declared.part.Part.{Part}
use Rattle.asm_expr.specs.declared.single.Single.{Single}
use Rattle.asm_expr.specs.declared.unknown.Unknown.{Unknown}
use Rattle.asm_parse.specs.declared.values.worth.Worth.{Worth}
use Rattle.asm_parse.specs.Operators.{divides}
use Rattle.asm_parse.specs.Values.Arithmetic.{unary, binary}
use Rattle.asm_parse.specs.Expression.{Expression, Leaf, Prefix, Infix, postfix}
use Rattle.asm_parse.specs.Values.Postfix.{spread}
use Rattle.asm_parse.specs.Source.{Operand}
use Rattle.asm_expr.specs.Names.{Table}
use Rattle.asm_expr.specs.Settling.{stands_for, operand_size, distance_of, or_else, through, both, leaf_or, divisor_fault, too_large, fault, replaced, reduced, worth_unknown}

-- the last item of an expression
abbrev pub root : Expression Part → Item Part
root (Leaf part) = Item.Leaf part
root (Prefix op a) = Item.Unary op
root (Infix op a b) = Item.Binary op

abbrev pub worth_of : Item Part → Worth
worth_of (Item.Leaf (Part.Number n)) = Worth.Number n
worth_of (Item.Leaf (Part.Unknown what)) = worth_unknown what
worth_of _ = Worth.Varies

abbrev pub single_of : Item Part → Single
single_of (Item.Leaf (Part.Ref r)) = Single.Place r
single_of (Item.Leaf (Part.Unknown Unknown.Anything)) = Single.Anything
single_of _ = Single.Other

abbrev pub difference_of : Table → Binary → Item Part → Item Part → Worth
difference_of t Binary.Subtract x y = distance_of t (single_of x) (single_of y)
difference_of t _ x y = Worth.Varies

-- the leaf that a fixed part becomes
abbrev pub leaf_of : Worth → Option Part
leaf_of (Worth.Number n) = Some (Part.Number n)
leaf_of Worth.Unknown = Some (Part.Unknown Unknown.Number)
leaf_of Worth.Varies = None

-- what is known of the result of a prefix operator, given the last item of its reduced operand
abbrev pub folded_unary : Unary → Item Part → Worth
folded_unary op x = through (unary op) (worth_of x)

abbrev pub folded_binary : Table → Binary → Item Part → Item Part → Worth
folded_binary t op x y = or_else (difference_of t op x y) (both (binary op) (worth_of x) (worth_of y))

abbrev pub prefixed : Unary → Expression Part → Expression Part
prefixed op a = leaf_or (Prefix op a) (folded_unary op (root a))

abbrev pub joined : Table → Binary → Expression Part → Expression Part → Expression Part
joined t op a b = leaf_or (Infix op a b) (folded_binary t op (root a) (root b))

abbrev pub item_fault : Binary → Item Part → Option ExprFault
item_fault op x = if divides op then divisor_fault (worth_of x) else None

abbrev pub unless : {A : Type 0} → Option ExprFault → Result A ExprFault → Result A ExprFault
unless None answer = answer
unless (Some fault) answer = Err fault

-- reduced expressions, the last one first, with one item more
abbrev pub fold_one : Table → Item Part → List (Expression Part) → Result (List (Expression Part)) ExprFault
fold_one t (Item.Leaf part) before = Ok (Leaf part ∷ before)
fold_one t (Item.Unary op) (a ∷ before) = Ok (prefixed op a ∷ before)
fold_one t (Item.Binary op) (b ∷ a ∷ before) = unless (item_fault op (root b)) (Ok (joined t op a b ∷ before))
fold_one t _ before = Ok before

abbrev pub fold_all : Table → List (Item Part) → List (Expression Part) → Result (List (Expression Part)) ExprFault
fold_all t [] before = Ok before
fold_all t (item ∷ items) before = fold_one t item before >>= λ now. fold_all t items now

-- the items that an item of a source stands for
abbrev pub items_for : Table → Item Operand → List (Item Part)
items_for t (Item.Leaf operand) = postfix (stands_for t operand)
items_for t (Item.Unary op) = Item.Unary op ∷ []
items_for t (Item.Binary op) = Item.Binary op ∷ []

abbrev pub item_size : Table → Item Operand → ℕ
item_size t (Item.Leaf operand) = operand_size t operand
item_size t _ = 1

-- reduced expressions with the items of a source, given how many terms and operators come before them
abbrev pub settling : Table → List (Item Operand) → ℕ → List (Expression Part) → Result (List (Expression Part)) ExprFault
settling t [] n before = Ok before
settling t (item ∷ items) n before =
    unless (too_large (n + item_size t item)) (fold_all t (items_for t item) before >>= λ now. settling t items (n + item_size t item) now)

-- The answer is the whole reduced, or its first error.
abbrev pub IsReduced : Table → Expression Operand → Result (List (Item Part)) ExprFault → Type 0
IsReduced t e (Ok out) = (fault t e ≡ None) × (out ≡ postfix (reduced t (replaced t e)))
IsReduced t e (Err why) = fault t e ≡ Some why

-- A step answers these expressions, and the items are theirs; or it answers this error.
abbrev pub Folds : Result (List (Expression Part)) ExprFault → {A : Type 0} → Result A ExprFault → List (Item Part) → Type 0
Folds folded (Ok _) items = (now : List (Expression Part)) × (folded ≡ Ok now) × (items ≡ spread now)
Folds folded (Err fault) items = folded ≡ Err fault

-- what is known of an expression that has a part without a value, given its last item
abbrev pub unknown_by : Option (Item Part) → Unknown
unknown_by (Some (Item.Leaf (Part.Unknown what))) = what
unknown_by (Some (Item.Unary Unary.High)) = Unknown.VariesInByte
unknown_by (Some (Item.Unary Unary.Low)) = Unknown.VariesInByte
unknown_by _ = Unknown.Varies

abbrev pub unknown_at_end : List (Item Part) → Unknown
unknown_at_end items = unknown_by (slice_get items (length items - 1))
