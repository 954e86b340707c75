-- What the public definitions say about the bytes for which the wrong bodies in wrong-bodies/ answer otherwise.
use Rattle.std.proofs.Common.{ℕ, List, [], ◌∷◌, refl, inl, inr, pos}
use Rattle.z80_instr.specs.Codes.{Codes, IsUndocumented}
use Rattle.z80_table.specs.Types.{IndexRegister, Memory, Operand, RegisterPair, WordRegister, Octal, Instr}
use Rattle.z80_table.proofs.Spellings.{none_foreign}

-- ED 6B 06 00 is LD HL,(0006H)
pub ed_6b : ¬ IsUndocumented (0xED ∷ 0x6B ∷ 0x06 ∷ 0x00 ∷ [])
ed_6b none = none.begins_none (Instr.LoadWordFrom (WordRegister.Pair RegisterPair.Hl) 0x0006) [] (record { numbers = refl; spelled = inr refl })

-- no instruction begins with DD 00
pub dd_00 : (rest : List ℕ) → IsUndocumented (0xDD ∷ 0x00 ∷ rest)
dd_00 rest = none_foreign (0xDD ∷ 0x00 ∷ rest) refl

-- DD CB 05 76 is BIT 6,(IX+5)
pub bit_6_on_ix : Codes (Instr.Bit Octal.Six (Operand.Memory (Memory.Indexed IndexRegister.Ix (pos 5)))) (0xDD ∷ 0xCB ∷ 0x05 ∷ 0x76 ∷ [])
bit_6_on_ix = record { numbers = refl; spelled = inl refl }
