-- The addresses in an expression to which numbers are added.
use Rattle.std.specs.Prelude.{ℕ, ◌+◌, ◌-◌, ◌%◌, List, [], ◌∷◌, ◌++◌, Option, Some, None}
use Rattle.std.specs.Option.{option_map_or}
use Rattle.asm_parse.specs.declared.item.Item.{Item}
use Rattle.asm_parse.specs.declared.operator.Binary.{Binary}
use Rattle.asm_parse.specs.declared.values.atom.Atom.{Atom}
use Rattle.asm_parse.specs.Values.Arithmetic.{modulus}
use Rattle.source_warnings.specs.declared.jumps.offsets.Offset.{Offset}

-- Expressions are in postfix order, and each part without an address is one number. So `p + 4 - 1` is p, 4, plus, 1, minus.

-- what a number and the operator after it add to what comes before them
abbrev pub term : Item Atom → Item Atom → Option ℕ
term (Item.Leaf (Atom.Number n)) (Item.Binary Binary.Add) = Some n
term (Item.Leaf (Atom.Number n)) (Item.Binary Binary.Subtract) = Some ((modulus - n) % modulus)
term _ _ = None

-- the sum of the terms with which some items begin, modulo 65,536
abbrev pub added : List (Item Atom) → ℕ
added (number ∷ operator ∷ items) = option_map_or (λ n. (n + added items) % modulus) (term number operator) 0
added _ = 0

-- the offset with which some items begin: `p` with the terms after it, or `n + p` with the terms after that
abbrev pub offset_at : List (Item Atom) → Option Offset
offset_at (Item.Leaf (Atom.Ref r) ∷ items) = Some (record { reference = r; bytes = added items })
offset_at (Item.Leaf (Atom.Number n) ∷ Item.Leaf (Atom.Ref r) ∷ Item.Binary Binary.Add ∷ items) = Some (record { reference = r; bytes = (added items + n) % modulus })
offset_at _ = None

abbrev pub if_any : {A : Type 0} → Option A → List A
if_any None = []
if_any (Some x) = x ∷ []

-- The addresses in an expression, each with the sum of its terms. Of `n + p`, p alone also counts, with the sum 0.
abbrev pub offsets : List (Item Atom) → List Offset
offsets [] = []
offsets (item ∷ items) = if_any (offset_at (item ∷ items)) ++ offsets items
