-- Fix-ups: fields of a statement whose values depend on addresses.
use Rattle.std.specs.Prelude.{◌≡◌, ◌≤◌, ◌<◌, ℕ, ◌+◌, ◌-◌, Bool, true, false, List, [], ◌∷◌, Option, Some, All, length, slice_get, slice_index}
use Rattle.asm_parse.specs.declared.item.Item.{Item}
use Rattle.asm_parse.specs.declared.operator.Unary.{Unary}
use Rattle.asm_parse.specs.declared.values.atom.Atom.{Atom}
use Rattle.asm_parse.specs.Values.Items.{IsExpr, refs}
use Rattle.zmo_object.specs.declared.module.hole.Hole.{Hole}
use Rattle.zmo_object.specs.declared.module.hole.Width.{Width}

abbrev pub width_size : Width → ℕ
width_size Width.Byte = 1
width_size Width.Word = 2

-- the outermost operator is HIGH or LOW
abbrev pub is_byte_operator : Option (Item Atom) → Bool
is_byte_operator (Some (Item.Unary Unary.High)) = true
is_byte_operator (Some (Item.Unary Unary.Low)) = true
is_byte_operator _ = false

abbrev pub ends_in_byte : List (Item Atom) → Bool
ends_in_byte items = is_byte_operator (slice_get items (length items - 1))

-- A byte whose value depends on addresses has to be HIGH or LOW of something.
abbrev pub FitsWidth : Width → List (Item Atom) → Type 0
FitsWidth Width.Byte items = ends_in_byte items ≡ true
FitsWidth Width.Word items = Unit {0}

-- the bytes that a fix-up fills are 0
abbrev pub IsBlank : List ℕ → Hole → Type 0
IsBlank bytes h = (k : ℕ) → k < width_size h.width → slice_index bytes (h.offset + k) ≡ 0

-- Fix-ups begin at offset `from` or later, ascend, do not overlap, and end within `count` bytes.
abbrev pub LieWithin : ℕ → ℕ → List Hole → Type 0
LieWithin from count [] = Unit {0}
LieWithin from count (h ∷ hs) = (from ≤ h.offset) × (h.offset + width_size h.width ≤ count) × LieWithin (h.offset + width_size h.width) count hs

-- The value of a fix-up is an expression that an object file may hold; it fits the width, and all its refs are below `refs_there`.
pub record IsHole (refs_there : ℕ) (bytes : List ℕ) (h : Hole) : Type 0 where
  pub expr : IsExpr h.value
  pub width : FitsWidth h.width h.value
  pub refs : All (λ r. r < refs_there) (refs h.value)
  pub blank : IsBlank bytes h
