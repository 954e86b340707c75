-- What writing an encoding does to a buffer, and the code of an operand.
use Rattle.std.specs.Prelude.{◌≡◌, ◌≤◌, ℕ, List, ◌++◌, length, drop}
use Rattle.z80_instr.specs.declared.Operand.{Operand}
use Rattle.z80_instr.specs.declared.Instr.{Instr}
use Rattle.z80_instr.specs.Table.{register_code, canonical}

-- The bytes are at the front of the new buffer of four, its other bytes are as before, and `count` is the number of the bytes.
pub record Writes (bytes old new : List ℕ) (count : ℕ) : Type 0 where
  pub written : new ≡ bytes ++ drop (length bytes) old
  pub counted : count ≡ length bytes
  pub room : count ≤ 4

-- The canonical encoding of the instruction is written like this.
abbrev pub Spells : Instr → List ℕ → List ℕ → ℕ → Type 0
Spells instr old new count = Writes (canonical instr) old new count

-- the code of a register, or 6 for a byte in memory
abbrev pub operand_code : Operand → ℕ
operand_code (Operand.Register register) = register_code register
operand_code (Operand.Memory _) = 6
