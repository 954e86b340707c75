-- The constants that EQU lines define, as the table of names that expressions use.
use Rattle.std.specs.Prelude.{ℕ, Bool, List, map, ◌&&◌}
use Rattle.asm_expr.specs.declared.meaning.Meaning.{Meaning}
use Rattle.asm_expr.specs.Names as names
use Rattle.asm_expr.specs.Names.{Table}
use Rattle.asm_expr.specs.Settling.{is_constant_item, is_known}
use Rattle.asm_parse.specs.declared.item.Item.{Item}
use Rattle.asm_parse.specs.Source.{Operand}

abbrev pub number_in : Meaning → ℕ
number_in (Meaning.Constant n) = n
number_in _ = 0

abbrev pub constants_in : List (List ℕ × Meaning) → List (List ℕ × ℕ)
constants_in entries = map (λ e. (e.0, number_in e.1)) entries

abbrev pub table_of : List (List ℕ × ℕ) → names.Table
table_of constants = record names.empty { entries = map (λ c. (c.0, Meaning.Constant c.1)) constants }

-- The item is a number, an operator or a name that stands for a constant: it does not depend on addresses.
abbrev pub is_plain_item : Table → Item Operand → Bool
is_plain_item t x = is_constant_item t x && is_known t x
