-- Defines when bytes are an encoding of an instruction, when they are only the beginning of one, and when they are neither.
use Rattle.std.specs.Prelude.{◌≡◌, ◌≢◌, ℕ, ◌⊎◌, List, Some, [], ◌++◌, Bool, true, ◌&&◌, nat_lt, ℤ, pos, negsuc}
use Rattle.z80_instr.specs.Types.{Memory, Operand, Pointer, Instr}
use Rattle.z80_instr.specs.Table.{canonical, other}

-- Numbers in a definition have no bounds, so the bounds of the types of an instruction's numbers are defined here.

-- whether a number is from -128 to 127; `negsuc n` is -1 - n
abbrev pub is_signed_byte : ℤ → Bool
is_signed_byte (pos n) = nat_lt n 128
is_signed_byte (negsuc n) = nat_lt n 128

abbrev pub memory_in_range : Memory → Bool
memory_in_range Memory.Hl = true
memory_in_range (Memory.Indexed _ d) = is_signed_byte d

abbrev pub operand_in_range : Operand → Bool
operand_in_range (Operand.Register _) = true
operand_in_range (Operand.Memory memory) = memory_in_range memory

abbrev pub pointer_in_range : Pointer → Bool
pointer_in_range (Pointer.Address nn) = nat_lt nn 65536
pointer_in_range _ = true

-- whether each number of an instruction is within the bounds of its type
abbrev pub in_range : Instr → Bool
in_range (Instr.Load _ operand) = operand_in_range operand
in_range (Instr.Store memory _) = memory_in_range memory
in_range (Instr.LoadByte operand n) = operand_in_range operand && nat_lt n 256
in_range (Instr.LoadA pointer) = pointer_in_range pointer
in_range (Instr.StoreA pointer) = pointer_in_range pointer
in_range (Instr.LoadWord _ nn) = nat_lt nn 65536
in_range (Instr.LoadWordFrom _ nn) = nat_lt nn 65536
in_range (Instr.StoreWord _ nn) = nat_lt nn 65536
in_range (Instr.Alu _ operand) = operand_in_range operand
in_range (Instr.AluByte _ n) = nat_lt n 256
in_range (Instr.Inc operand) = operand_in_range operand
in_range (Instr.Dec operand) = operand_in_range operand
in_range (Instr.Rotate _ operand) = operand_in_range operand
in_range (Instr.Bit _ operand) = operand_in_range operand
in_range (Instr.Set _ operand) = operand_in_range operand
in_range (Instr.Res _ operand) = operand_in_range operand
in_range (Instr.Jump nn) = nat_lt nn 65536
in_range (Instr.JumpIf _ nn) = nat_lt nn 65536
in_range (Instr.JumpRelative e) = is_signed_byte e
in_range (Instr.JumpRelativeIf _ e) = is_signed_byte e
in_range (Instr.Djnz e) = is_signed_byte e
in_range (Instr.Call nn) = nat_lt nn 65536
in_range (Instr.CallIf _ nn) = nat_lt nn 65536
in_range (Instr.InA n) = nat_lt n 256
in_range (Instr.OutA n) = nat_lt n 256
in_range _ = true

-- The bytes are an encoding of the instruction.
pub record Codes (instr : Instr) (bytes : List ℕ) : Type 0 where
  pub numbers : in_range instr ≡ true
  pub spelled : (bytes ≡ canonical instr) ⊎ (other instr ≡ Some bytes)

-- The bytes are the beginning of a longer encoding.
pub record IsProperPrefix (bytes : List ℕ) : Type 0 where
  pub rest : List ℕ
  pub instr : Instr
  pub codes : Codes instr (bytes ++ rest)
  pub more : rest ≢ []

-- No encoding is at the front of the bytes, and they are not the beginning of one.
pub record IsUndocumented (bytes : List ℕ) : Type 0 where
  pub none_begins : (instr : Instr) (spelling rest : List ℕ) → Codes instr spelling → bytes ≢ spelling ++ rest
  pub begins_none : (instr : Instr) (rest : List ℕ) → Codes instr (bytes ++ rest) → ⊥
