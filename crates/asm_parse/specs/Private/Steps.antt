-- How the code reads items, step by step.
use Rattle.std.specs.Prelude.{◌≡◌, ◌+◌, ◌&&◌, ℕ, Bool, List, [], ◌∷◌, Some, length, slice_index, nat_eq, nat_le}
use Rattle.std.specs.Option.{option_map, option_eq}
use Rattle.asm_parse.specs.declared.item.Item.{Item}
use Rattle.asm_parse.specs.declared.values.atom.Atom.{Atom}
use Rattle.asm_parse.specs.declared.values.expr.TheConstants.{MOST_ITEMS}
use Rattle.asm_parse.specs.Expression.{Expression}
use Rattle.asm_parse.specs.Values.Postfix.{run}
use Rattle.asm_parse.specs.Values.Items.{value, is_guarded}

-- whether items make an expression
abbrev pub is_expr : List (Item Atom) → Bool
is_expr items = (nat_le (length items) MOST_ITEMS && option_eq nat_eq (option_map length (run items [])) (Some 1)) && is_guarded items

-- how many operands an item takes
abbrev pub arity : {L : Type 0} → Item L → ℕ
arity (Item.Leaf l) = 0
arity (Item.Unary op) = 1
arity (Item.Binary op) = 2

-- The first `len` numbers of the stack are the values of these expressions; the last expression is first in the list.
abbrev pub Stacked : (ℕ → ℕ) → List (Expression Atom) → List ℕ → ℕ → Type 0
Stacked places [] stack len = len ≡ 0
Stacked places (e ∷ before) stack len = (below : ℕ) × (len ≡ below + 1) × (slice_index stack below ≡ value places e) × Stacked places before stack below
