-- Every instruction whose numbers are within their types is that of its row with these numbers put in: one test for each row of the
-- table.
use Rattle.std.proofs.Common.{◌≡◌, ℕ, ◌-◌, ◌*◌, ◌/◌, ◌%◌, ◌<◌, List, [], ◌∷◌, true, refl, ℤ, pos, negsuc, arith}
use Rattle.std.proofs.lemmas.Bool.{ltb-true, and_parts}
use Rattle.std.proofs.lemmas.List.Elements.{All-cons}
use Rattle.z80_instr.specs.Table.{octal_code, octal_of}
use Rattle.z80_instr.specs.Codes.{in_range, is_signed_byte}
use Rattle.z80_instr.proofs.Finite.{agree_below, ◌⊗◌, registers, indexes, pairs, addends, conditions, short_conditions, operations, rotations, octals, block_operations, block_steps}
use Rattle.z80_form.specs.Types.{Memory, Operand, Pointer, WordRegister, HlOrIndex, StackOperand, Octal, InterruptMode, Instr, Field}
use Rattle.z80_form.specs.Numbers.{allows, fields, signed, with_number, with_zeros, HasNumbers}

-- Numbers in fields.

abbrev displacement : ℤ → ℕ
displacement (pos n) = n
displacement (negsuc n) = 65535 - n

displacement_allowed : (d : ℤ) → is_signed_byte d ≡ true → allows Field.Displacement (displacement d) ≡ true
displacement_allowed (pos n) ok = agree_below (λ n. allows Field.Displacement n) (λ n. true) 128 refl n (ltb-true n 128 ok)
displacement_allowed (negsuc n) ok = agree_below (λ n. allows Field.Displacement (65535 - n)) (λ n. true) 128 refl n (ltb-true n 128 ok)

displacement_is : (d : ℤ) → is_signed_byte d ≡ true → signed (displacement d) ≡ d
displacement_is (pos n) ok = agree_below (λ n. signed n) (λ n. pos n) 128 refl n (ltb-true n 128 ok)
displacement_is (negsuc n) ok = agree_below (λ n. signed (65535 - n)) (λ n. negsuc n) 128 refl n (ltb-true n 128 ok)

byte_allowed : (n : ℕ) → n < 256 → allows Field.Byte n ≡ true
byte_allowed = agree_below (λ n. allows Field.Byte n) (λ n. true) 256 refl

byte_is : (n : ℕ) → n < 256 → n % 256 ≡ n
byte_is n h = omega arith

bit_allowed : (b : Octal) → allows Field.Bit (octal_code b) ≡ true
bit_allowed = octals.agree _ (λ b. allows Field.Bit (octal_code b)) (λ b. true) refl

restart_allowed : (b : Octal) → allows Field.Restart (8 * octal_code b) ≡ true
restart_allowed = octals.agree _ (λ b. allows Field.Restart (8 * octal_code b)) (λ b. true) refl

bit_is : (b : Octal) → octal_of (octal_code b) ≡ b
bit_is = octals.agree _ (λ b. octal_of (octal_code b)) (λ b. b) refl

restart_is : (b : Octal) → octal_of (8 * octal_code b / 8) ≡ b
restart_is = octals.agree _ (λ b. octal_of (8 * octal_code b / 8)) (λ b. b) refl

-- One or two numbers.

abbrev Allowed : Field × ℕ → Type 0
Allowed n = allows n.0 n.1 ≡ true

abbrev Numbered : Instr → Type 0
Numbered instr = (numbers : List (Field × ℕ)) × HasNumbers instr numbers

none : (instr : Instr) → [] ≡ fields instr → with_zeros instr ≡ instr → Numbered instr
none instr f e = ([], record { fields_are = f; allowed = λ k d h. absurd (omega arith); filled = e })

one_number : (instr : Instr) (field : Field) (n : ℕ) → field ∷ [] ≡ fields instr → allows field n ≡ true → with_number field n (with_zeros instr) ≡ instr → Numbered instr
one_number instr field n f ok e = ((field, n) ∷ [], record { fields_are = f; allowed = All-cons Allowed (field, n) [] ok (λ k d h. absurd (omega arith)); filled = e })

two_numbers : (instr : Instr) (a b : Field) (m n : ℕ) → a ∷ b ∷ [] ≡ fields instr → allows a m ≡ true → allows b n ≡ true → with_number b n (with_number a m (with_zeros instr)) ≡ instr → Numbered instr
two_numbers instr a b m n f first second e = ((a, m) ∷ (b, n) ∷ [], record { fields_are = f; allowed = All-cons Allowed (a, m) ((b, n) ∷ []) first (All-cons Allowed (b, n) [] second (λ k d h. absurd (omega arith))); filled = e })

pub complete : (instr : Instr) → in_range instr ≡ true → Numbered instr
complete (Instr.Load a (Operand.Register b)) ok = none _ ((registers ⊗ registers).agree _ (λ p. []) (λ p. fields (Instr.Load p.0 (Operand.Register p.1))) refl (a, b)) refl
complete (Instr.Load a (Operand.Memory Memory.Hl)) ok = none _ (registers.agree _ (λ a. []) (λ a. fields (Instr.Load a (Operand.Memory Memory.Hl))) refl a) refl
complete (Instr.Load a (Operand.Memory (Memory.Indexed b d))) ok = one_number _ Field.Displacement (displacement d) ((registers ⊗ indexes).agree _ (λ p. Field.Displacement ∷ []) (λ p. fields (Instr.Load p.0 (Operand.Memory (Memory.Indexed p.1 d)))) refl (a, b)) (displacement_allowed d ok) (rw (displacement_is d ok) refl)
complete (Instr.Store Memory.Hl a) ok = none _ (registers.agree _ (λ a. []) (λ a. fields (Instr.Store Memory.Hl a)) refl a) refl
complete (Instr.Store (Memory.Indexed a d) b) ok = one_number _ Field.Displacement (displacement d) ((indexes ⊗ registers).agree _ (λ p. Field.Displacement ∷ []) (λ p. fields (Instr.Store (Memory.Indexed p.0 d) p.1)) refl (a, b)) (displacement_allowed d ok) (rw (displacement_is d ok) refl)
complete (Instr.LoadByte (Operand.Register a) n) ok = let small = ltb-true n 256 ok in one_number _ Field.Byte n (registers.agree _ (λ a. Field.Byte ∷ []) (λ a. fields (Instr.LoadByte (Operand.Register a) n)) refl a) (byte_allowed n small) (rw (byte_is n small) refl)
complete (Instr.LoadByte (Operand.Memory Memory.Hl) n) ok = let small = ltb-true n 256 ok in one_number _ Field.Byte n refl (byte_allowed n small) (rw (byte_is n small) refl)
complete (Instr.LoadByte (Operand.Memory (Memory.Indexed a d)) n) ok = let parts = and_parts (is_signed_byte d) _ ok in let small = ltb-true n 256 parts.1 in two_numbers _ Field.Displacement Field.Byte (displacement d) n (indexes.agree _ (λ a. Field.Displacement ∷ Field.Byte ∷ []) (λ a. fields (Instr.LoadByte (Operand.Memory (Memory.Indexed a d)) n)) refl a) (displacement_allowed d parts.0) (byte_allowed n small) (rw (displacement_is d parts.0, byte_is n small) refl)
complete (Instr.LoadA Pointer.Bc) ok = none _ refl refl
complete (Instr.LoadA Pointer.De) ok = none _ refl refl
complete (Instr.LoadA (Pointer.Address nn)) ok = one_number _ Field.Word nn refl ok refl
complete (Instr.StoreA Pointer.Bc) ok = none _ refl refl
complete (Instr.StoreA Pointer.De) ok = none _ refl refl
complete (Instr.StoreA (Pointer.Address nn)) ok = one_number _ Field.Word nn refl ok refl
complete Instr.LoadAFromI ok = none _ refl refl
complete Instr.LoadAFromR ok = none _ refl refl
complete Instr.LoadIFromA ok = none _ refl refl
complete Instr.LoadRFromA ok = none _ refl refl
complete (Instr.LoadWord (WordRegister.Pair a) nn) ok = one_number _ Field.Word nn (pairs.agree _ (λ a. Field.Word ∷ []) (λ a. fields (Instr.LoadWord (WordRegister.Pair a) nn)) refl a) ok refl
complete (Instr.LoadWord (WordRegister.Index a) nn) ok = one_number _ Field.Word nn (indexes.agree _ (λ a. Field.Word ∷ []) (λ a. fields (Instr.LoadWord (WordRegister.Index a) nn)) refl a) ok refl
complete (Instr.LoadWordFrom (WordRegister.Pair a) nn) ok = one_number _ Field.Word nn (pairs.agree _ (λ a. Field.Word ∷ []) (λ a. fields (Instr.LoadWordFrom (WordRegister.Pair a) nn)) refl a) ok refl
complete (Instr.LoadWordFrom (WordRegister.Index a) nn) ok = one_number _ Field.Word nn (indexes.agree _ (λ a. Field.Word ∷ []) (λ a. fields (Instr.LoadWordFrom (WordRegister.Index a) nn)) refl a) ok refl
complete (Instr.StoreWord (WordRegister.Pair a) nn) ok = one_number _ Field.Word nn (pairs.agree _ (λ a. Field.Word ∷ []) (λ a. fields (Instr.StoreWord (WordRegister.Pair a) nn)) refl a) ok refl
complete (Instr.StoreWord (WordRegister.Index a) nn) ok = one_number _ Field.Word nn (indexes.agree _ (λ a. Field.Word ∷ []) (λ a. fields (Instr.StoreWord (WordRegister.Index a) nn)) refl a) ok refl
complete (Instr.LoadSp HlOrIndex.Hl) ok = none _ refl refl
complete (Instr.LoadSp (HlOrIndex.Index a)) ok = none _ (indexes.agree _ (λ a. []) (λ a. fields (Instr.LoadSp (HlOrIndex.Index a))) refl a) refl
complete (Instr.Push StackOperand.Bc) ok = none _ refl refl
complete (Instr.Push StackOperand.De) ok = none _ refl refl
complete (Instr.Push StackOperand.Hl) ok = none _ refl refl
complete (Instr.Push StackOperand.Af) ok = none _ refl refl
complete (Instr.Push (StackOperand.Index a)) ok = none _ (indexes.agree _ (λ a. []) (λ a. fields (Instr.Push (StackOperand.Index a))) refl a) refl
complete (Instr.Pop StackOperand.Bc) ok = none _ refl refl
complete (Instr.Pop StackOperand.De) ok = none _ refl refl
complete (Instr.Pop StackOperand.Hl) ok = none _ refl refl
complete (Instr.Pop StackOperand.Af) ok = none _ refl refl
complete (Instr.Pop (StackOperand.Index a)) ok = none _ (indexes.agree _ (λ a. []) (λ a. fields (Instr.Pop (StackOperand.Index a))) refl a) refl
complete Instr.ExDeHl ok = none _ refl refl
complete Instr.ExAf ok = none _ refl refl
complete Instr.Exx ok = none _ refl refl
complete (Instr.ExSp HlOrIndex.Hl) ok = none _ refl refl
complete (Instr.ExSp (HlOrIndex.Index a)) ok = none _ (indexes.agree _ (λ a. []) (λ a. fields (Instr.ExSp (HlOrIndex.Index a))) refl a) refl
complete (Instr.Block a b) ok = none _ ((block_operations ⊗ block_steps).agree _ (λ p. []) (λ p. fields (Instr.Block p.0 p.1)) refl (a, b)) refl
complete (Instr.Alu a (Operand.Register b)) ok = none _ ((operations ⊗ registers).agree _ (λ p. []) (λ p. fields (Instr.Alu p.0 (Operand.Register p.1))) refl (a, b)) refl
complete (Instr.Alu a (Operand.Memory Memory.Hl)) ok = none _ (operations.agree _ (λ a. []) (λ a. fields (Instr.Alu a (Operand.Memory Memory.Hl))) refl a) refl
complete (Instr.Alu a (Operand.Memory (Memory.Indexed b d))) ok = one_number _ Field.Displacement (displacement d) ((operations ⊗ indexes).agree _ (λ p. Field.Displacement ∷ []) (λ p. fields (Instr.Alu p.0 (Operand.Memory (Memory.Indexed p.1 d)))) refl (a, b)) (displacement_allowed d ok) (rw (displacement_is d ok) refl)
complete (Instr.AluByte a n) ok = let small = ltb-true n 256 ok in one_number _ Field.Byte n (operations.agree _ (λ a. Field.Byte ∷ []) (λ a. fields (Instr.AluByte a n)) refl a) (byte_allowed n small) (rw (byte_is n small) refl)
complete (Instr.Inc (Operand.Register a)) ok = none _ (registers.agree _ (λ a. []) (λ a. fields (Instr.Inc (Operand.Register a))) refl a) refl
complete (Instr.Inc (Operand.Memory Memory.Hl)) ok = none _ refl refl
complete (Instr.Inc (Operand.Memory (Memory.Indexed a d))) ok = one_number _ Field.Displacement (displacement d) (indexes.agree _ (λ a. Field.Displacement ∷ []) (λ a. fields (Instr.Inc (Operand.Memory (Memory.Indexed a d)))) refl a) (displacement_allowed d ok) (rw (displacement_is d ok) refl)
complete (Instr.Dec (Operand.Register a)) ok = none _ (registers.agree _ (λ a. []) (λ a. fields (Instr.Dec (Operand.Register a))) refl a) refl
complete (Instr.Dec (Operand.Memory Memory.Hl)) ok = none _ refl refl
complete (Instr.Dec (Operand.Memory (Memory.Indexed a d))) ok = one_number _ Field.Displacement (displacement d) (indexes.agree _ (λ a. Field.Displacement ∷ []) (λ a. fields (Instr.Dec (Operand.Memory (Memory.Indexed a d)))) refl a) (displacement_allowed d ok) (rw (displacement_is d ok) refl)
complete Instr.Daa ok = none _ refl refl
complete Instr.Cpl ok = none _ refl refl
complete Instr.Neg ok = none _ refl refl
complete Instr.Ccf ok = none _ refl refl
complete Instr.Scf ok = none _ refl refl
complete Instr.Nop ok = none _ refl refl
complete Instr.Halt ok = none _ refl refl
complete Instr.Di ok = none _ refl refl
complete Instr.Ei ok = none _ refl refl
complete (Instr.Im InterruptMode.Zero) ok = one_number _ Field.Mode 0 refl refl refl
complete (Instr.Im InterruptMode.One) ok = one_number _ Field.Mode 1 refl refl refl
complete (Instr.Im InterruptMode.Two) ok = one_number _ Field.Mode 2 refl refl refl
complete (Instr.AddHl a) ok = none _ (pairs.agree _ (λ a. []) (λ a. fields (Instr.AddHl a)) refl a) refl
complete (Instr.AdcHl a) ok = none _ (pairs.agree _ (λ a. []) (λ a. fields (Instr.AdcHl a)) refl a) refl
complete (Instr.SbcHl a) ok = none _ (pairs.agree _ (λ a. []) (λ a. fields (Instr.SbcHl a)) refl a) refl
complete (Instr.AddIndex a b) ok = none _ ((indexes ⊗ addends).agree _ (λ p. []) (λ p. fields (Instr.AddIndex p.0 p.1)) refl (a, b)) refl
complete (Instr.IncWord (WordRegister.Pair a)) ok = none _ (pairs.agree _ (λ a. []) (λ a. fields (Instr.IncWord (WordRegister.Pair a))) refl a) refl
complete (Instr.IncWord (WordRegister.Index a)) ok = none _ (indexes.agree _ (λ a. []) (λ a. fields (Instr.IncWord (WordRegister.Index a))) refl a) refl
complete (Instr.DecWord (WordRegister.Pair a)) ok = none _ (pairs.agree _ (λ a. []) (λ a. fields (Instr.DecWord (WordRegister.Pair a))) refl a) refl
complete (Instr.DecWord (WordRegister.Index a)) ok = none _ (indexes.agree _ (λ a. []) (λ a. fields (Instr.DecWord (WordRegister.Index a))) refl a) refl
complete Instr.Rlca ok = none _ refl refl
complete Instr.Rla ok = none _ refl refl
complete Instr.Rrca ok = none _ refl refl
complete Instr.Rra ok = none _ refl refl
complete (Instr.Rotate a (Operand.Register b)) ok = none _ ((rotations ⊗ registers).agree _ (λ p. []) (λ p. fields (Instr.Rotate p.0 (Operand.Register p.1))) refl (a, b)) refl
complete (Instr.Rotate a (Operand.Memory Memory.Hl)) ok = none _ (rotations.agree _ (λ a. []) (λ a. fields (Instr.Rotate a (Operand.Memory Memory.Hl))) refl a) refl
complete (Instr.Rotate a (Operand.Memory (Memory.Indexed b d))) ok = one_number _ Field.Displacement (displacement d) ((rotations ⊗ indexes).agree _ (λ p. Field.Displacement ∷ []) (λ p. fields (Instr.Rotate p.0 (Operand.Memory (Memory.Indexed p.1 d)))) refl (a, b)) (displacement_allowed d ok) (rw (displacement_is d ok) refl)
complete Instr.Rld ok = none _ refl refl
complete Instr.Rrd ok = none _ refl refl
complete (Instr.Bit a (Operand.Register b)) ok = one_number _ Field.Bit (octal_code a) ((octals ⊗ registers).agree _ (λ p. Field.Bit ∷ []) (λ p. fields (Instr.Bit p.0 (Operand.Register p.1))) refl (a, b)) (bit_allowed a) (rw (bit_is a) refl)
complete (Instr.Bit a (Operand.Memory Memory.Hl)) ok = one_number _ Field.Bit (octal_code a) (octals.agree _ (λ a. Field.Bit ∷ []) (λ a. fields (Instr.Bit a (Operand.Memory Memory.Hl))) refl a) (bit_allowed a) (rw (bit_is a) refl)
complete (Instr.Bit a (Operand.Memory (Memory.Indexed b d))) ok = two_numbers _ Field.Bit Field.Displacement (octal_code a) (displacement d) ((octals ⊗ indexes).agree _ (λ p. Field.Bit ∷ Field.Displacement ∷ []) (λ p. fields (Instr.Bit p.0 (Operand.Memory (Memory.Indexed p.1 d)))) refl (a, b)) (bit_allowed a) (displacement_allowed d ok) (rw (displacement_is d ok, bit_is a) refl)
complete (Instr.Set a (Operand.Register b)) ok = one_number _ Field.Bit (octal_code a) ((octals ⊗ registers).agree _ (λ p. Field.Bit ∷ []) (λ p. fields (Instr.Set p.0 (Operand.Register p.1))) refl (a, b)) (bit_allowed a) (rw (bit_is a) refl)
complete (Instr.Set a (Operand.Memory Memory.Hl)) ok = one_number _ Field.Bit (octal_code a) (octals.agree _ (λ a. Field.Bit ∷ []) (λ a. fields (Instr.Set a (Operand.Memory Memory.Hl))) refl a) (bit_allowed a) (rw (bit_is a) refl)
complete (Instr.Set a (Operand.Memory (Memory.Indexed b d))) ok = two_numbers _ Field.Bit Field.Displacement (octal_code a) (displacement d) ((octals ⊗ indexes).agree _ (λ p. Field.Bit ∷ Field.Displacement ∷ []) (λ p. fields (Instr.Set p.0 (Operand.Memory (Memory.Indexed p.1 d)))) refl (a, b)) (bit_allowed a) (displacement_allowed d ok) (rw (displacement_is d ok, bit_is a) refl)
complete (Instr.Res a (Operand.Register b)) ok = one_number _ Field.Bit (octal_code a) ((octals ⊗ registers).agree _ (λ p. Field.Bit ∷ []) (λ p. fields (Instr.Res p.0 (Operand.Register p.1))) refl (a, b)) (bit_allowed a) (rw (bit_is a) refl)
complete (Instr.Res a (Operand.Memory Memory.Hl)) ok = one_number _ Field.Bit (octal_code a) (octals.agree _ (λ a. Field.Bit ∷ []) (λ a. fields (Instr.Res a (Operand.Memory Memory.Hl))) refl a) (bit_allowed a) (rw (bit_is a) refl)
complete (Instr.Res a (Operand.Memory (Memory.Indexed b d))) ok = two_numbers _ Field.Bit Field.Displacement (octal_code a) (displacement d) ((octals ⊗ indexes).agree _ (λ p. Field.Bit ∷ Field.Displacement ∷ []) (λ p. fields (Instr.Res p.0 (Operand.Memory (Memory.Indexed p.1 d)))) refl (a, b)) (bit_allowed a) (displacement_allowed d ok) (rw (displacement_is d ok, bit_is a) refl)
complete (Instr.Jump nn) ok = one_number _ Field.Word nn refl ok refl
complete (Instr.JumpIf a nn) ok = one_number _ Field.Word nn (conditions.agree _ (λ a. Field.Word ∷ []) (λ a. fields (Instr.JumpIf a nn)) refl a) ok refl
complete (Instr.JumpRelative e) ok = one_number _ Field.Distance (displacement e) refl (displacement_allowed e ok) (rw (displacement_is e ok) refl)
complete (Instr.JumpRelativeIf a e) ok = one_number _ Field.Distance (displacement e) (short_conditions.agree _ (λ a. Field.Distance ∷ []) (λ a. fields (Instr.JumpRelativeIf a e)) refl a) (displacement_allowed e ok) (rw (displacement_is e ok) refl)
complete (Instr.JumpIndirect HlOrIndex.Hl) ok = none _ refl refl
complete (Instr.JumpIndirect (HlOrIndex.Index a)) ok = none _ (indexes.agree _ (λ a. []) (λ a. fields (Instr.JumpIndirect (HlOrIndex.Index a))) refl a) refl
complete (Instr.Djnz e) ok = one_number _ Field.Distance (displacement e) refl (displacement_allowed e ok) (rw (displacement_is e ok) refl)
complete (Instr.Call nn) ok = one_number _ Field.Word nn refl ok refl
complete (Instr.CallIf a nn) ok = one_number _ Field.Word nn (conditions.agree _ (λ a. Field.Word ∷ []) (λ a. fields (Instr.CallIf a nn)) refl a) ok refl
complete Instr.Ret ok = none _ refl refl
complete (Instr.RetIf a) ok = none _ (conditions.agree _ (λ a. []) (λ a. fields (Instr.RetIf a)) refl a) refl
complete Instr.Reti ok = none _ refl refl
complete Instr.Retn ok = none _ refl refl
complete (Instr.Restart a) ok = one_number _ Field.Restart (8 * octal_code a) (octals.agree _ (λ a. Field.Restart ∷ []) (λ a. fields (Instr.Restart a)) refl a) (restart_allowed a) (rw (restart_is a) refl)
complete (Instr.InA n) ok = let small = ltb-true n 256 ok in one_number _ Field.Byte n refl (byte_allowed n small) (rw (byte_is n small) refl)
complete (Instr.InC a) ok = none _ (registers.agree _ (λ a. []) (λ a. fields (Instr.InC a)) refl a) refl
complete (Instr.OutA n) ok = let small = ltb-true n 256 ok in one_number _ Field.Byte n refl (byte_allowed n small) (rw (byte_is n small) refl)
complete (Instr.OutC a) ok = none _ (registers.agree _ (λ a. []) (λ a. fields (Instr.OutC a)) refl a) refl
