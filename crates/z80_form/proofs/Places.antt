-- Where the numbers are in the bytes: one test for each row that has one.
use Rattle.std.proofs.Common.{◌≡◌, ℕ, ◌%◌, [], ◌∷◌, ◌++◌, refl, ap, arith, true, Some}
use Rattle.std.specs.Prelude.{slice_set}
use Rattle.std.specs.Int.{w8, cast_unsigned}
use Rattle.std.proofs.lemmas.Int.{of_z-to_z}
use Rattle.z80_instr.specs.Table.{canonical, word}
use Rattle.z80_form.specs.Types.{Memory, Operand, Pointer, RegisterPair, WordRegister, Instr, Field}
use Rattle.z80_form.specs.Numbers.{number_field, with_number, but_last, has_displacement, signed}

pub byte_last : (instr : Instr) (value : ℕ) → number_field instr ≡ Some Field.Byte → canonical (with_number Field.Byte value instr) ≡ but_last 1 (canonical instr) ++ value % 256 ∷ []
byte_last (Instr.LoadByte (Operand.Register r) n) value h = refl
byte_last (Instr.LoadByte (Operand.Memory Memory.Hl) n) value h = refl
byte_last (Instr.LoadByte (Operand.Memory (Memory.Indexed x d)) n) value h = refl
byte_last (Instr.AluByte operation n) value h = refl
byte_last (Instr.InA n) value h = refl
byte_last (Instr.OutA n) value h = refl
byte_last (Instr.LoadA Pointer.Bc) value h = absurd cc
byte_last (Instr.LoadA Pointer.De) value h = absurd cc
byte_last (Instr.LoadA (Pointer.Address nn)) value h = absurd cc
byte_last (Instr.StoreA Pointer.Bc) value h = absurd cc
byte_last (Instr.StoreA Pointer.De) value h = absurd cc
byte_last (Instr.StoreA (Pointer.Address nn)) value h = absurd cc
byte_last _ value h = absurd cc

pub word_last : (instr : Instr) (value : ℕ) → number_field instr ≡ Some Field.Word → canonical (with_number Field.Word value instr) ≡ but_last 2 (canonical instr) ++ word value
word_last (Instr.LoadA (Pointer.Address nn)) value h = refl
word_last (Instr.StoreA (Pointer.Address nn)) value h = refl
word_last (Instr.LoadWord (WordRegister.Pair dd) nn) value h = refl
word_last (Instr.LoadWord (WordRegister.Index x) nn) value h = refl
word_last (Instr.LoadWordFrom (WordRegister.Pair RegisterPair.Bc) nn) value h = refl
word_last (Instr.LoadWordFrom (WordRegister.Pair RegisterPair.De) nn) value h = refl
word_last (Instr.LoadWordFrom (WordRegister.Pair RegisterPair.Hl) nn) value h = refl
word_last (Instr.LoadWordFrom (WordRegister.Pair RegisterPair.Sp) nn) value h = refl
word_last (Instr.LoadWordFrom (WordRegister.Index x) nn) value h = refl
word_last (Instr.StoreWord (WordRegister.Pair RegisterPair.Bc) nn) value h = refl
word_last (Instr.StoreWord (WordRegister.Pair RegisterPair.De) nn) value h = refl
word_last (Instr.StoreWord (WordRegister.Pair RegisterPair.Hl) nn) value h = refl
word_last (Instr.StoreWord (WordRegister.Pair RegisterPair.Sp) nn) value h = refl
word_last (Instr.StoreWord (WordRegister.Index x) nn) value h = refl
word_last (Instr.Jump nn) value h = refl
word_last (Instr.JumpIf condition nn) value h = refl
word_last (Instr.Call nn) value h = refl
word_last (Instr.CallIf condition nn) value h = refl
word_last _ value h = absurd cc

-- a low byte as a signed number and back is the same byte
signed_byte : (value : ℕ) → cast_unsigned w8 (signed value) ≡ value % 256
signed_byte value = of_z-to_z w8 (value % 256) (omega arith)

pub distance_last : (instr : Instr) (value : ℕ) → number_field instr ≡ Some Field.Distance → canonical (with_number Field.Distance value instr) ≡ but_last 1 (canonical instr) ++ value % 256 ∷ []
distance_last (Instr.JumpRelative e) value h = ap (λ b. but_last 1 (canonical (Instr.JumpRelative e)) ++ b ∷ []) (signed_byte value)
distance_last (Instr.JumpRelativeIf condition e) value h = ap (λ b. but_last 1 (canonical (Instr.JumpRelativeIf condition e)) ++ b ∷ []) (signed_byte value)
distance_last (Instr.Djnz e) value h = ap (λ b. but_last 1 (canonical (Instr.Djnz e)) ++ b ∷ []) (signed_byte value)
distance_last (Instr.LoadA Pointer.Bc) value h = absurd cc
distance_last (Instr.LoadA Pointer.De) value h = absurd cc
distance_last (Instr.LoadA (Pointer.Address nn)) value h = absurd cc
distance_last (Instr.StoreA Pointer.Bc) value h = absurd cc
distance_last (Instr.StoreA Pointer.De) value h = absurd cc
distance_last (Instr.StoreA (Pointer.Address nn)) value h = absurd cc
distance_last _ value h = absurd cc

-- the third byte is the displacement
third : (instr : Instr) (value : ℕ) → canonical (with_number Field.Displacement value instr) ≡ slice_set (canonical instr) 2 (cast_unsigned w8 (signed value)) → canonical (with_number Field.Displacement value instr) ≡ slice_set (canonical instr) 2 (value % 256)
third instr value e = rw (signed_byte value) at e

pub displacement_third : (instr : Instr) (value : ℕ) → has_displacement instr ≡ true → canonical (with_number Field.Displacement value instr) ≡ slice_set (canonical instr) 2 (value % 256)
displacement_third (Instr.Load r (Operand.Memory (Memory.Indexed x d))) value h = third (Instr.Load r (Operand.Memory (Memory.Indexed x d))) value refl
displacement_third (Instr.Store (Memory.Indexed x d) r) value h = third (Instr.Store (Memory.Indexed x d) r) value refl
displacement_third (Instr.LoadByte (Operand.Memory (Memory.Indexed x d)) n) value h = third (Instr.LoadByte (Operand.Memory (Memory.Indexed x d)) n) value refl
displacement_third (Instr.Alu operation (Operand.Memory (Memory.Indexed x d))) value h = third (Instr.Alu operation (Operand.Memory (Memory.Indexed x d))) value refl
displacement_third (Instr.Inc (Operand.Memory (Memory.Indexed x d))) value h = third (Instr.Inc (Operand.Memory (Memory.Indexed x d))) value refl
displacement_third (Instr.Dec (Operand.Memory (Memory.Indexed x d))) value h = third (Instr.Dec (Operand.Memory (Memory.Indexed x d))) value refl
displacement_third (Instr.Rotate rotation (Operand.Memory (Memory.Indexed x d))) value h = third (Instr.Rotate rotation (Operand.Memory (Memory.Indexed x d))) value refl
displacement_third (Instr.Bit b (Operand.Memory (Memory.Indexed x d))) value h = third (Instr.Bit b (Operand.Memory (Memory.Indexed x d))) value refl
displacement_third (Instr.Set b (Operand.Memory (Memory.Indexed x d))) value h = third (Instr.Set b (Operand.Memory (Memory.Indexed x d))) value refl
displacement_third (Instr.Res b (Operand.Memory (Memory.Indexed x d))) value h = third (Instr.Res b (Operand.Memory (Memory.Indexed x d))) value refl
displacement_third _ value h = absurd cc
