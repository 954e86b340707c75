-- How the registers are printed, and what the system calls have set.
use Rattle.std.specs.Prelude.{ℕ, Bool, List, [], ◌∷◌, ◌++◌, codes, decimal, if◌then◌else◌}
use Rattle.z80_cpu.specs.declared.alu.flags.Flags.{Flags}
use Rattle.z80_cpu.specs.State.{af, bc, de, hl}
use Rattle.z80_cpu.specs.declared.registers.Cpu.{Cpu}
use Rattle.state_text.specs.Printing.Columns.{blanks, word_text}

-- a register and its value, as in BC=0009
abbrev pub value_text : List ℕ → ℕ → List ℕ
value_text name value = name ++ codes "=" ++ word_text value

-- the same with a blank after it
abbrev pub value_column : List ℕ → ℕ → List ℕ
value_column name value = value_text name value ++ blanks 1

abbrev pub flag_letter : Bool → ℕ → ℕ
flag_letter is_set letter = if is_set then letter else 0x2D

-- the flags as letters: S, Z, H, P, N and C in the places of their bits, and `-` for a flag that is not set
abbrev pub flags_text : Flags → List ℕ
flags_text f =
    flag_letter f.sign 0x53 ∷ flag_letter f.zero 0x5A ∷ 0x2D ∷ flag_letter f.half_carry 0x48 ∷ 0x2D ∷ flag_letter f.parity_overflow 0x50
    ∷ flag_letter f.subtract 0x4E ∷ flag_letter f.carry 0x43 ∷ []

-- four pairs of registers
abbrev pub pairs_text : ℕ → ℕ → ℕ → ℕ → List ℕ
pairs_text a b d h = value_column (codes "AF") a ++ value_column (codes "BC") b ++ value_column (codes "DE") d ++ value_column (codes "HL") h

abbrev pub shadow_pairs_text : ℕ → ℕ → ℕ → ℕ → List ℕ
shadow_pairs_text a b d h = value_column (codes "AF'") a ++ value_column (codes "BC'") b ++ value_column (codes "DE'") d ++ value_column (codes "HL'") h

abbrev pub index_text : Cpu → List ℕ
index_text cpu = value_column (codes "IX") cpu.ix ++ value_column (codes "IY") cpu.iy ++ value_column (codes "SP") cpu.sp ++ value_column (codes "PC") cpu.pc

-- the first line: the registers and the flags
abbrev pub main_line : Cpu → List ℕ
main_line cpu = pairs_text (af cpu.main) (bc cpu.main) (de cpu.main) (hl cpu.main) ++ index_text cpu ++ flags_text cpu.main.flags ++ codes "\n"

-- the second line: the other set of registers, I and R
abbrev pub shadow_line : Cpu → List ℕ
shadow_line cpu =
    shadow_pairs_text (af cpu.shadow) (bc cpu.shadow) (de cpu.shadow) (hl cpu.shadow) ++ value_column (codes "I") cpu.i ++ value_text (codes "R") cpu.r ++ codes "\n"

-- the third line: what the system calls have set, the address of the buffer for records and the user
abbrev pub system_line : ℕ → ℕ → List ℕ
system_line dma user = value_column (codes "DMA") dma ++ codes "user=" ++ decimal user ++ codes "\n"

-- these lines
abbrev pub registers_text : Cpu → ℕ → ℕ → List ℕ
registers_text cpu dma user = main_line cpu ++ shadow_line cpu ++ system_line dma user
