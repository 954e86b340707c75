-- Fields of one or two bytes, put one after the other.
use Rattle.std.specs.Prelude.{ℕ, ◌+◌, ◌%◌, Bool, true, false, List, [], ◌∷◌, ◌++◌}
use Rattle.std.specs.List.{flat_map, list_all}
use Rattle.z80_instr.specs.Table.{word}
use Rattle.asm_stmt.specs.declared.cell.Cell.{Cell}
use Rattle.asm_stmt.specs.declared.cell.Filling.{Filling}
use Rattle.zmo_object.specs.Holes.{width_size}
use Rattle.zmo_object.specs.declared.module.hole.Hole.{Hole}
use Rattle.zmo_object.specs.declared.module.hole.Width.{Width}

-- a number as the bytes of a field; of a word, the low byte first
abbrev pub written : Width → ℕ → List ℕ
written Width.Byte n = n % 256 ∷ []
written Width.Word n = word n

-- what the field has in the object file: its value, or 0 if the value depends on addresses or is not known
abbrev pub number_or_0 : Filling → ℕ
number_or_0 (Filling.Number n) = n
number_or_0 _ = 0

abbrev pub cell_bytes : Cell → List ℕ
cell_bytes c = written c.width (number_or_0 c.filling)

abbrev pub bytes : List Cell → List ℕ
bytes cells = flat_map cell_bytes cells

-- the fix-up of a field whose value depends on addresses, at this offset from the first byte of the statement
abbrev pub hole : ℕ → Width → Filling → List Hole
hole at width (Filling.Varying e) = (record { offset = at; width = width; value = e }) ∷ []
hole at width _ = []

abbrev pub holes : ℕ → List Cell → List Hole
holes at [] = []
holes at (c ∷ cs) = hole at c.width c.filling ++ holes (at + width_size c.width) cs

-- what fills the field is known: a number, or an expression that the linker computes
abbrev pub is_filled : Filling → Bool
is_filled Filling.Unknown = false
is_filled _ = true

abbrev pub all_filled : List Cell → Bool
all_filled cells = list_all (λ c. is_filled c.filling) cells
