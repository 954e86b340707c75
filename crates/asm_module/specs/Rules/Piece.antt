-- The rules of an object file that concern one piece.
use Rattle.std.specs.Prelude.{◌≤◌, ◌<◌, ℕ, All, length}
use Rattle.zmo_object.specs.Holes.{IsHole, LieWithin}
use Rattle.asm_stmt.specs.Made as made
use Rattle.asm_stmt.specs.Made.{Piece}

-- Given the number of refs: fix-ups ascend, do not overlap and lie in the bytes, and each is one that an object file may hold; a jump goes
-- to one of the refs; and space has one byte at least.
abbrev pub KeepsPieceRules : ℕ → Piece → Type 0
KeepsPieceRules refs (made.Bytes bytes holes) = LieWithin 0 (length bytes) holes × All (IsHole refs bytes) holes
KeepsPieceRules refs (made.Jump condition target) = target < refs
KeepsPieceRules refs (made.Short branch target) = target < refs
KeepsPieceRules refs (made.Space size fill) = 1 ≤ size
