-- The bytes of the fields of an object file.
use Rattle.std.specs.Prelude.{ℕ, ◌%◌, ◌/◌, List, [], ◌∷◌, length}
use Rattle.std.specs.List.{flat_map}
use Rattle.asm_parse.specs.declared.item.Item.{Item}
use Rattle.asm_parse.specs.declared.operator.Binary.{Binary}
use Rattle.asm_parse.specs.declared.operator.Unary.{Unary}
use Rattle.asm_parse.specs.declared.values.atom.Atom.{Atom}

-- a number as two bytes, the low one first
abbrev pub word_bytes : ℕ → List ℕ
word_bytes n = (n % 256) ∷ (n / 256) ∷ []

-- the length in one byte, and then the bytes
abbrev pub with_length : List ℕ → List ℕ
with_length bytes = length bytes ∷ bytes

abbrev pub unary_code : Unary → ℕ
unary_code Unary.Negate = 0x10
unary_code Unary.Not = 0x11
unary_code Unary.High = 0x12
unary_code Unary.Low = 0x13

abbrev pub binary_code : Binary → ℕ
binary_code Binary.Add = 0x20
binary_code Binary.Subtract = 0x21
binary_code Binary.Multiply = 0x22
binary_code Binary.Divide = 0x23
binary_code Binary.Modulo = 0x24
binary_code Binary.ShiftLeft = 0x25
binary_code Binary.ShiftRight = 0x26
binary_code Binary.And = 0x27
binary_code Binary.Or = 0x28
binary_code Binary.Xor = 0x29
binary_code Binary.Equal = 0x2A
binary_code Binary.NotEqual = 0x2B
binary_code Binary.Less = 0x2C
binary_code Binary.LessOrEqual = 0x2D
binary_code Binary.Greater = 0x2E
binary_code Binary.GreaterOrEqual = 0x2F

abbrev pub item_text : Item Atom → List ℕ
item_text (Item.Leaf (Atom.Number n)) = 0x01 ∷ word_bytes n
item_text (Item.Leaf (Atom.Ref r)) = 0x02 ∷ word_bytes r
item_text (Item.Unary op) = unary_code op ∷ []
item_text (Item.Binary op) = binary_code op ∷ []

-- the bytes of an expression: its items in postfix order
abbrev pub expr_text : List (Item Atom) → List ℕ
expr_text items = flat_map item_text items
