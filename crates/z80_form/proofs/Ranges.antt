-- Allowed numbers are within their types, and so are zeros.
use Rattle.std.proofs.Common.{◌≡◌, ℕ, ◌%◌, Bool, true, ◌&&◌, nat_lt, refl, arith, ℤ}
use Rattle.std.specs.Int.{w8, cast_signed}
use Rattle.std.proofs.lemmas.Bool.{lt-ltb, and_parts}
use Rattle.z80_instr.specs.Codes.{in_range, is_signed_byte, memory_in_range, operand_in_range, pointer_in_range}
use Rattle.z80_instr.proofs.Finite.{agree_below}
use Rattle.z80_form.specs.Types.{Memory, Operand, Pointer, Octal, InterruptMode, Instr, Field}
use Rattle.z80_form.specs.Numbers.{allows, signed, memory_at, operand_at, pointer_at, with_byte, with_word_operand, with_displacement, with_distance, with_bit, with_mode, with_restart, with_number, with_zeros}

both : (a b : Bool) → a ≡ true → b ≡ true → (a && b) ≡ true
both a b e f = rw (e, f) refl

byte_small : (value : ℕ) → nat_lt (value % 256) 256 ≡ true
byte_small value = lt-ltb (value % 256) 256 (omega arith)

signed_small : (value : ℕ) → is_signed_byte (signed value) ≡ true
signed_small value = agree_below (λ n. is_signed_byte (cast_signed w8 n)) (λ n. true) 256 refl (value % 256) (omega arith)

memory_range : (d : ℤ) → is_signed_byte d ≡ true → (m : Memory) → memory_in_range (memory_at d m) ≡ true
memory_range d small Memory.Hl = refl
memory_range d small (Memory.Indexed x e) = small

operand_range : (d : ℤ) → is_signed_byte d ≡ true → (s : Operand) → operand_in_range (operand_at d s) ≡ true
operand_range d small (Operand.Register r) = refl
operand_range d small (Operand.Memory m) = memory_range d small m

pointer_range : (nn : ℕ) → nat_lt nn 65536 ≡ true → (p : Pointer) → pointer_in_range (pointer_at nn p) ≡ true
pointer_range nn small Pointer.Bc = refl
pointer_range nn small Pointer.De = refl
pointer_range nn small (Pointer.Address k) = small

range_byte : (n : ℕ) → nat_lt n 256 ≡ true → (i : Instr) → in_range i ≡ true → in_range (with_byte n i) ≡ true
range_byte n small (Instr.LoadByte m k) ok = both (operand_in_range m) (nat_lt n 256) (and_parts (operand_in_range m) _ ok).0 small
range_byte n small (Instr.AluByte operation k) ok = small
range_byte n small (Instr.InA k) ok = small
range_byte n small (Instr.OutA k) ok = small
range_byte n small _ ok = ok

range_word : (nn : ℕ) → nat_lt nn 65536 ≡ true → (i : Instr) → in_range i ≡ true → in_range (with_word_operand nn i) ≡ true
range_word nn small (Instr.LoadA p) ok = pointer_range nn small p
range_word nn small (Instr.StoreA p) ok = pointer_range nn small p
range_word nn small (Instr.LoadWord dd k) ok = small
range_word nn small (Instr.LoadWordFrom dd k) ok = small
range_word nn small (Instr.StoreWord dd k) ok = small
range_word nn small (Instr.Jump k) ok = small
range_word nn small (Instr.JumpIf condition k) ok = small
range_word nn small (Instr.Call k) ok = small
range_word nn small (Instr.CallIf condition k) ok = small
range_word nn small _ ok = ok

range_displacement : (d : ℤ) → is_signed_byte d ≡ true → (i : Instr) → in_range i ≡ true → in_range (with_displacement d i) ≡ true
range_displacement d small (Instr.Load r s) ok = operand_range d small s
range_displacement d small (Instr.Store m r) ok = memory_range d small m
range_displacement d small (Instr.LoadByte m n) ok = both (operand_in_range (operand_at d m)) (nat_lt n 256) (operand_range d small m) (and_parts (operand_in_range m) _ ok).1
range_displacement d small (Instr.Alu operation s) ok = operand_range d small s
range_displacement d small (Instr.Inc m) ok = operand_range d small m
range_displacement d small (Instr.Dec m) ok = operand_range d small m
range_displacement d small (Instr.Rotate rotation m) ok = operand_range d small m
range_displacement d small (Instr.Bit b m) ok = operand_range d small m
range_displacement d small (Instr.Set b m) ok = operand_range d small m
range_displacement d small (Instr.Res b m) ok = operand_range d small m
range_displacement d small _ ok = ok

range_distance : (e : ℤ) → is_signed_byte e ≡ true → (i : Instr) → in_range i ≡ true → in_range (with_distance e i) ≡ true
range_distance e small (Instr.JumpRelative k) ok = small
range_distance e small (Instr.JumpRelativeIf condition k) ok = small
range_distance e small (Instr.Djnz k) ok = small
range_distance e small _ ok = ok

range_bit : (b : Octal) (i : Instr) → in_range i ≡ true → in_range (with_bit b i) ≡ true
range_bit b (Instr.Bit c m) ok = ok
range_bit b (Instr.Set c m) ok = ok
range_bit b (Instr.Res c m) ok = ok
range_bit b _ ok = ok

range_mode : (mode : InterruptMode) (i : Instr) → in_range i ≡ true → in_range (with_mode mode i) ≡ true
range_mode mode (Instr.Im k) ok = ok
range_mode mode _ ok = ok

range_restart : (t : Octal) (i : Instr) → in_range i ≡ true → in_range (with_restart t i) ≡ true
range_restart t (Instr.Restart u) ok = ok
range_restart t _ ok = ok

pub range_kept : (field : Field) (value : ℕ) (i : Instr) → allows field value ≡ true → in_range i ≡ true → in_range (with_number field value i) ≡ true
range_kept Field.Byte value i allowed ok = range_byte _ (byte_small value) i ok
range_kept Field.Word value i allowed ok = range_word _ allowed i ok
range_kept Field.Displacement value i allowed ok = range_displacement _ (signed_small value) i ok
range_kept Field.Distance value i allowed ok = range_distance _ (signed_small value) i ok
range_kept Field.Bit value i allowed ok = range_bit _ i ok
range_kept Field.Mode value i allowed ok = range_mode _ i ok
range_kept Field.Restart value i allowed ok = range_restart _ i ok

pub blank_range : (i : Instr) → in_range (with_zeros i) ≡ true
blank_range (Instr.Load r (Operand.Register s)) = refl
blank_range (Instr.Load r (Operand.Memory Memory.Hl)) = refl
blank_range (Instr.Load r (Operand.Memory (Memory.Indexed x d))) = refl
blank_range (Instr.Store Memory.Hl r) = refl
blank_range (Instr.Store (Memory.Indexed x d) r) = refl
blank_range (Instr.LoadByte (Operand.Register s) n) = refl
blank_range (Instr.LoadByte (Operand.Memory Memory.Hl) n) = refl
blank_range (Instr.LoadByte (Operand.Memory (Memory.Indexed x d)) n) = refl
blank_range (Instr.LoadA Pointer.Bc) = refl
blank_range (Instr.LoadA Pointer.De) = refl
blank_range (Instr.LoadA (Pointer.Address nn)) = refl
blank_range (Instr.StoreA Pointer.Bc) = refl
blank_range (Instr.StoreA Pointer.De) = refl
blank_range (Instr.StoreA (Pointer.Address nn)) = refl
blank_range (Instr.Alu operation (Operand.Register s)) = refl
blank_range (Instr.Alu operation (Operand.Memory Memory.Hl)) = refl
blank_range (Instr.Alu operation (Operand.Memory (Memory.Indexed x d))) = refl
blank_range (Instr.Inc (Operand.Register s)) = refl
blank_range (Instr.Inc (Operand.Memory Memory.Hl)) = refl
blank_range (Instr.Inc (Operand.Memory (Memory.Indexed x d))) = refl
blank_range (Instr.Dec (Operand.Register s)) = refl
blank_range (Instr.Dec (Operand.Memory Memory.Hl)) = refl
blank_range (Instr.Dec (Operand.Memory (Memory.Indexed x d))) = refl
blank_range (Instr.Rotate rotation (Operand.Register s)) = refl
blank_range (Instr.Rotate rotation (Operand.Memory Memory.Hl)) = refl
blank_range (Instr.Rotate rotation (Operand.Memory (Memory.Indexed x d))) = refl
blank_range (Instr.Bit b (Operand.Register s)) = refl
blank_range (Instr.Bit b (Operand.Memory Memory.Hl)) = refl
blank_range (Instr.Bit b (Operand.Memory (Memory.Indexed x d))) = refl
blank_range (Instr.Set b (Operand.Register s)) = refl
blank_range (Instr.Set b (Operand.Memory Memory.Hl)) = refl
blank_range (Instr.Set b (Operand.Memory (Memory.Indexed x d))) = refl
blank_range (Instr.Res b (Operand.Register s)) = refl
blank_range (Instr.Res b (Operand.Memory Memory.Hl)) = refl
blank_range (Instr.Res b (Operand.Memory (Memory.Indexed x d))) = refl
blank_range _ = refl
