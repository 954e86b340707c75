-- Which items make an expression of an object file, and what its value is.
use Rattle.std.specs.Prelude.{◌≡◌, ◌≢◌, ◌≤◌, ◌%◌, ℕ, suc, Bool, true, false, not, ◌&&◌, ◌||◌, List, [], ◌∷◌, Option, Some, None, length, nat_lt}
use Rattle.std.specs.List.{flat_map}
use Rattle.asm_parse.specs.declared.item.Item.{Item}
use Rattle.asm_parse.specs.declared.values.atom.Atom.{Atom}
use Rattle.asm_parse.specs.declared.values.expr.TheConstants.{MOST_ITEMS}
use Rattle.asm_parse.specs.Operators.{divides}
use Rattle.asm_parse.specs.Values.Arithmetic.{modulus, unary, binary}
use Rattle.asm_parse.specs.Expression.{Expression, Leaf, Prefix, Infix, postfix}
use Rattle.asm_parse.specs.Values.Postfix.{tree}

-- The value of an expression, modulo 65,536, given the address of each ref.
abbrev pub value : (ℕ → ℕ) → Expression Atom → ℕ
value places (Leaf (Atom.Number n)) = n
value places (Leaf (Atom.Ref r)) = places r % modulus
value places (Prefix op a) = unary op (value places a)
value places (Infix op a b) = binary op (value places a) (value places b)

abbrev pub is_division : Item Atom → Bool
is_division (Item.Binary op) = divides op
is_division _ = false

-- whether an item is a number other than 0
abbrev pub is_divisor : Item Atom → Bool
is_divisor (Item.Leaf (Atom.Number (suc n))) = true
is_divisor _ = false

-- Whether each division comes directly after a number other than 0, given the item before the first one here.
abbrev pub is_guarded_behind : Item Atom → List (Item Atom) → Bool
is_guarded_behind before [] = true
is_guarded_behind before (item ∷ items) = (not (is_division item) || is_divisor before) && is_guarded_behind item items

abbrev pub is_guarded : List (Item Atom) → Bool
is_guarded [] = true
is_guarded (item ∷ items) = is_guarded_behind item items

-- These are the items of an expression of an object file: they leave one value, are at most `MOST_ITEMS`, and divide only by
-- numbers other than 0.
pub record IsExpr (items : List (Item Atom)) : Type 0 where
  pub tree : Expression Atom
  pub spelled : postfix tree ≡ items
  pub few : length items ≤ MOST_ITEMS
  pub guarded : is_guarded items ≡ true

abbrev pub is_ref : Item Atom → Bool
is_ref (Item.Leaf (Atom.Ref r)) = true
is_ref _ = false

abbrev pub refs_in : Item Atom → List ℕ
refs_in (Item.Leaf (Atom.Ref r)) = r ∷ []
refs_in _ = []

-- the refs of items, in order
abbrev pub refs : List (Item Atom) → List ℕ
refs items = flat_map refs_in items

-- There is no ref, and the number is the value at any addresses; or there is a ref.
abbrev pub IsConstant : List (Item Atom) → Option ℕ → Type 0
IsConstant items (Some n) = (refs items ≡ []) × ((places : ℕ → ℕ) → value places (tree items) ≡ n)
IsConstant items None = refs items ≢ []

-- Whether an item is no ref, or one that is less than `count`.
abbrev pub is_within : ℕ → Item Atom → Bool
is_within count (Item.Leaf (Atom.Ref r)) = nat_lt r count
is_within count _ = true
