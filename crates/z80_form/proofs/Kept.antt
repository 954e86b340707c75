-- Putting numbers in changes neither the row, nor which fields are filled, nor the count of bytes.
use Rattle.std.proofs.Common.{◌≡◌, ℕ, List, [], ◌∷◌, refl, ap, ◌∙◌, length, ℤ, pos}
use Rattle.z80_instr.specs.Table.{canonical}
use Rattle.z80_form.specs.Types.{Memory, Operand, Pointer, RegisterPair, WordRegister, Octal, InterruptMode, Instr, Field, Mnemonic, Form, Name}
use Rattle.z80_form.specs.Rows.{row, operand_form, memory, pointer, register, two, one, on_a}
use Rattle.z80_form.specs.Numbers.{memory_at, operand_at, pointer_at, with_displacement, with_byte, with_word_operand, with_distance, with_bit, with_mode, with_restart, with_number, with_numbers, number_field, field_of, with_zeros}

-- Rows.

memory_steady : (d : ℤ) (m : Memory) → memory (memory_at d m) ≡ memory m
memory_steady d Memory.Hl = refl
memory_steady d (Memory.Indexed x e) = refl

operand_steady : (d : ℤ) (s : Operand) → operand_form (operand_at d s) ≡ operand_form s
operand_steady d (Operand.Register r) = refl
operand_steady d (Operand.Memory m) = memory_steady d m

pointer_steady : (nn : ℕ) (p : Pointer) → pointer (pointer_at nn p) ≡ pointer p
pointer_steady nn Pointer.Bc = refl
pointer_steady nn Pointer.De = refl
pointer_steady nn (Pointer.Address mm) = refl

row_displacement : (d : ℤ) (i : Instr) → row (with_displacement d i) ≡ row i
row_displacement d (Instr.Load r s) = ap (two Mnemonic.Ld (register r)) (operand_steady d s)
row_displacement d (Instr.Store m r) = ap (λ f. two Mnemonic.Ld f (register r)) (memory_steady d m)
row_displacement d (Instr.LoadByte m n) = ap (λ f. two Mnemonic.Ld f Form.Number) (operand_steady d m)
row_displacement d (Instr.Alu operation s) = ap (on_a operation) (operand_steady d s)
row_displacement d (Instr.Inc m) = ap (one Mnemonic.Inc) (operand_steady d m)
row_displacement d (Instr.Dec m) = ap (one Mnemonic.Dec) (operand_steady d m)
row_displacement d (Instr.Rotate rotation m) = ap (one (Mnemonic.Rotate rotation)) (operand_steady d m)
row_displacement d (Instr.Bit b m) = ap (two Mnemonic.Bit Form.Number) (operand_steady d m)
row_displacement d (Instr.Set b m) = ap (two Mnemonic.Set Form.Number) (operand_steady d m)
row_displacement d (Instr.Res b m) = ap (two Mnemonic.Res Form.Number) (operand_steady d m)
row_displacement d _ = refl

row_byte : (n : ℕ) (i : Instr) → row (with_byte n i) ≡ row i
row_byte n (Instr.LoadByte m k) = refl
row_byte n _ = refl

row_word : (nn : ℕ) (i : Instr) → row (with_word_operand nn i) ≡ row i
row_word nn (Instr.LoadA p) = ap (two Mnemonic.Ld (Form.Name Name.A)) (pointer_steady nn p)
row_word nn (Instr.StoreA p) = ap (λ f. two Mnemonic.Ld f (Form.Name Name.A)) (pointer_steady nn p)
row_word nn _ = refl

row_distance : (e : ℤ) (i : Instr) → row (with_distance e i) ≡ row i
row_distance e (Instr.Djnz k) = refl
row_distance e _ = refl

row_bit : (b : Octal) (i : Instr) → row (with_bit b i) ≡ row i
row_bit b (Instr.Bit c m) = refl
row_bit b _ = refl

row_mode : (m : InterruptMode) (i : Instr) → row (with_mode m i) ≡ row i
row_mode m (Instr.Im k) = refl
row_mode m _ = refl

row_restart : (t : Octal) (i : Instr) → row (with_restart t i) ≡ row i
row_restart t (Instr.Restart u) = refl
row_restart t _ = refl

pub row_steady : (field : Field) (value : ℕ) (i : Instr) → row (with_number field value i) ≡ row i
row_steady Field.Byte value i = row_byte _ i
row_steady Field.Word value i = row_word _ i
row_steady Field.Displacement value i = row_displacement _ i
row_steady Field.Distance value i = row_distance _ i
row_steady Field.Bit value i = row_bit _ i
row_steady Field.Mode value i = row_mode _ i
row_steady Field.Restart value i = row_restart _ i

-- Lengths.

abbrev size : Instr → ℕ
size i = length (canonical i)

size_displacement : (d : ℤ) (i : Instr) → size (with_displacement d i) ≡ size i
size_displacement d (Instr.Load r (Operand.Register s)) = refl
size_displacement d (Instr.Load r (Operand.Memory Memory.Hl)) = refl
size_displacement d (Instr.Load r (Operand.Memory (Memory.Indexed x k))) = refl
size_displacement d (Instr.Store Memory.Hl r) = refl
size_displacement d (Instr.Store (Memory.Indexed x k) r) = refl
size_displacement d (Instr.LoadByte (Operand.Register s) n) = refl
size_displacement d (Instr.LoadByte (Operand.Memory Memory.Hl) n) = refl
size_displacement d (Instr.LoadByte (Operand.Memory (Memory.Indexed x k)) n) = refl
size_displacement d (Instr.Alu operation (Operand.Register s)) = refl
size_displacement d (Instr.Alu operation (Operand.Memory Memory.Hl)) = refl
size_displacement d (Instr.Alu operation (Operand.Memory (Memory.Indexed x k))) = refl
size_displacement d (Instr.Inc (Operand.Register s)) = refl
size_displacement d (Instr.Inc (Operand.Memory Memory.Hl)) = refl
size_displacement d (Instr.Inc (Operand.Memory (Memory.Indexed x k))) = refl
size_displacement d (Instr.Dec (Operand.Register s)) = refl
size_displacement d (Instr.Dec (Operand.Memory Memory.Hl)) = refl
size_displacement d (Instr.Dec (Operand.Memory (Memory.Indexed x k))) = refl
size_displacement d (Instr.Rotate rotation (Operand.Register s)) = refl
size_displacement d (Instr.Rotate rotation (Operand.Memory Memory.Hl)) = refl
size_displacement d (Instr.Rotate rotation (Operand.Memory (Memory.Indexed x k))) = refl
size_displacement d (Instr.Bit b (Operand.Register s)) = refl
size_displacement d (Instr.Bit b (Operand.Memory Memory.Hl)) = refl
size_displacement d (Instr.Bit b (Operand.Memory (Memory.Indexed x k))) = refl
size_displacement d (Instr.Set b (Operand.Register s)) = refl
size_displacement d (Instr.Set b (Operand.Memory Memory.Hl)) = refl
size_displacement d (Instr.Set b (Operand.Memory (Memory.Indexed x k))) = refl
size_displacement d (Instr.Res b (Operand.Register s)) = refl
size_displacement d (Instr.Res b (Operand.Memory Memory.Hl)) = refl
size_displacement d (Instr.Res b (Operand.Memory (Memory.Indexed x k))) = refl
size_displacement d _ = refl

size_byte : (n : ℕ) (i : Instr) → size (with_byte n i) ≡ size i
size_byte n (Instr.LoadByte (Operand.Register s) m) = refl
size_byte n (Instr.LoadByte (Operand.Memory Memory.Hl) m) = refl
size_byte n (Instr.LoadByte (Operand.Memory (Memory.Indexed x k)) m) = refl
size_byte n _ = refl

size_word : (nn : ℕ) (i : Instr) → size (with_word_operand nn i) ≡ size i
size_word nn (Instr.LoadA Pointer.Bc) = refl
size_word nn (Instr.LoadA Pointer.De) = refl
size_word nn (Instr.LoadA (Pointer.Address mm)) = refl
size_word nn (Instr.StoreA Pointer.Bc) = refl
size_word nn (Instr.StoreA Pointer.De) = refl
size_word nn (Instr.StoreA (Pointer.Address mm)) = refl
size_word nn (Instr.LoadWord (WordRegister.Pair RegisterPair.Bc) mm) = refl
size_word nn (Instr.LoadWord (WordRegister.Pair RegisterPair.De) mm) = refl
size_word nn (Instr.LoadWord (WordRegister.Pair RegisterPair.Hl) mm) = refl
size_word nn (Instr.LoadWord (WordRegister.Pair RegisterPair.Sp) mm) = refl
size_word nn (Instr.LoadWord (WordRegister.Index x) mm) = refl
size_word nn (Instr.LoadWordFrom (WordRegister.Pair RegisterPair.Bc) mm) = refl
size_word nn (Instr.LoadWordFrom (WordRegister.Pair RegisterPair.De) mm) = refl
size_word nn (Instr.LoadWordFrom (WordRegister.Pair RegisterPair.Hl) mm) = refl
size_word nn (Instr.LoadWordFrom (WordRegister.Pair RegisterPair.Sp) mm) = refl
size_word nn (Instr.LoadWordFrom (WordRegister.Index x) mm) = refl
size_word nn (Instr.StoreWord (WordRegister.Pair RegisterPair.Bc) mm) = refl
size_word nn (Instr.StoreWord (WordRegister.Pair RegisterPair.De) mm) = refl
size_word nn (Instr.StoreWord (WordRegister.Pair RegisterPair.Hl) mm) = refl
size_word nn (Instr.StoreWord (WordRegister.Pair RegisterPair.Sp) mm) = refl
size_word nn (Instr.StoreWord (WordRegister.Index x) mm) = refl
size_word nn _ = refl

size_distance : (e : ℤ) (i : Instr) → size (with_distance e i) ≡ size i
size_distance e (Instr.Djnz k) = refl
size_distance e _ = refl

size_bit : (b : Octal) (i : Instr) → size (with_bit b i) ≡ size i
size_bit b (Instr.Bit c (Operand.Register s)) = refl
size_bit b (Instr.Bit c (Operand.Memory Memory.Hl)) = refl
size_bit b (Instr.Bit c (Operand.Memory (Memory.Indexed x k))) = refl
size_bit b (Instr.Set c (Operand.Register s)) = refl
size_bit b (Instr.Set c (Operand.Memory Memory.Hl)) = refl
size_bit b (Instr.Set c (Operand.Memory (Memory.Indexed x k))) = refl
size_bit b (Instr.Res c (Operand.Register s)) = refl
size_bit b (Instr.Res c (Operand.Memory Memory.Hl)) = refl
size_bit b (Instr.Res c (Operand.Memory (Memory.Indexed x k))) = refl
size_bit b _ = refl

size_mode : (m : InterruptMode) (i : Instr) → size (with_mode m i) ≡ size i
size_mode InterruptMode.Zero (Instr.Im InterruptMode.Zero) = refl
size_mode InterruptMode.Zero (Instr.Im InterruptMode.One) = refl
size_mode InterruptMode.Zero (Instr.Im InterruptMode.Two) = refl
size_mode InterruptMode.One (Instr.Im InterruptMode.Zero) = refl
size_mode InterruptMode.One (Instr.Im InterruptMode.One) = refl
size_mode InterruptMode.One (Instr.Im InterruptMode.Two) = refl
size_mode InterruptMode.Two (Instr.Im InterruptMode.Zero) = refl
size_mode InterruptMode.Two (Instr.Im InterruptMode.One) = refl
size_mode InterruptMode.Two (Instr.Im InterruptMode.Two) = refl
size_mode m _ = refl

size_restart : (t : Octal) (i : Instr) → size (with_restart t i) ≡ size i
size_restart t (Instr.Restart u) = refl
size_restart t _ = refl

pub size_steady : (field : Field) (value : ℕ) (i : Instr) → length (canonical (with_number field value i)) ≡ length (canonical i)
size_steady Field.Byte value i = size_byte _ i
size_steady Field.Word value i = size_word _ i
size_steady Field.Displacement value i = size_displacement _ i
size_steady Field.Distance value i = size_distance _ i
size_steady Field.Bit value i = size_bit _ i
size_steady Field.Mode value i = size_mode _ i
size_steady Field.Restart value i = size_restart _ i

-- All numbers.

pub rows_steady : (ns : List (Field × ℕ)) (i : Instr) → row (with_numbers ns i) ≡ row i
rows_steady [] i = refl
rows_steady (n ∷ ns) i = rows_steady ns (with_number n.0 n.1 i) ∙ row_steady n.0 n.1 i

pub sizes_steady : (ns : List (Field × ℕ)) (i : Instr) → length (canonical (with_numbers ns i)) ≡ length (canonical i)
sizes_steady [] i = refl
sizes_steady (n ∷ ns) i = sizes_steady ns (with_number n.0 n.1 i) ∙ size_steady n.0 n.1 i

-- The field that an operand's expression fills.

number_word : (nn : ℕ) (i : Instr) → number_field (with_word_operand nn i) ≡ number_field i
number_word nn (Instr.LoadA Pointer.Bc) = refl
number_word nn (Instr.LoadA Pointer.De) = refl
number_word nn (Instr.LoadA (Pointer.Address mm)) = refl
number_word nn (Instr.StoreA Pointer.Bc) = refl
number_word nn (Instr.StoreA Pointer.De) = refl
number_word nn (Instr.StoreA (Pointer.Address mm)) = refl
number_word nn _ = refl

number_byte : (n : ℕ) (i : Instr) → number_field (with_byte n i) ≡ number_field i
number_byte n (Instr.LoadByte m k) = refl
number_byte n _ = refl

number_displacement : (d : ℤ) (i : Instr) → number_field (with_displacement d i) ≡ number_field i
number_displacement d (Instr.Load r s) = refl
number_displacement d _ = refl

number_distance : (e : ℤ) (i : Instr) → number_field (with_distance e i) ≡ number_field i
number_distance e (Instr.Djnz k) = refl
number_distance e _ = refl

number_bit : (b : Octal) (i : Instr) → number_field (with_bit b i) ≡ number_field i
number_bit b (Instr.Bit c m) = refl
number_bit b _ = refl

number_mode : (m : InterruptMode) (i : Instr) → number_field (with_mode m i) ≡ number_field i
number_mode m (Instr.Im k) = refl
number_mode m _ = refl

number_restart : (t : Octal) (i : Instr) → number_field (with_restart t i) ≡ number_field i
number_restart t (Instr.Restart u) = refl
number_restart t _ = refl

number_steady : (field : Field) (value : ℕ) (i : Instr) → number_field (with_number field value i) ≡ number_field i
number_steady Field.Byte value i = number_byte _ i
number_steady Field.Word value i = number_word _ i
number_steady Field.Displacement value i = number_displacement _ i
number_steady Field.Distance value i = number_distance _ i
number_steady Field.Bit value i = number_bit _ i
number_steady Field.Mode value i = number_mode _ i
number_steady Field.Restart value i = number_restart _ i

pub field_steady : (field : Field) (value : ℕ) (i : Instr) (form : Form) → field_of (with_number field value i) form ≡ field_of i form
field_steady field value i (Form.Displaced x) = refl
field_steady field value i Form.AtNumber = number_steady field value i
field_steady field value i Form.Number = number_steady field value i
field_steady field value i _ = refl

-- Displacements of an instruction with zeros.

memory_flat : (m : Memory) → memory_at (pos 0) (memory_at (pos 0) m) ≡ memory_at (pos 0) m
memory_flat Memory.Hl = refl
memory_flat (Memory.Indexed x d) = refl

operand_flat : (s : Operand) → operand_at (pos 0) (operand_at (pos 0) s) ≡ operand_at (pos 0) s
operand_flat (Operand.Register r) = refl
operand_flat (Operand.Memory m) = ap Operand.Memory (memory_flat m)

pub blank_is_flat : (i : Instr) → with_displacement (pos 0) (with_zeros i) ≡ with_zeros i
blank_is_flat (Instr.Load r s) = ap (λ s. Instr.Load r s) (operand_flat s)
blank_is_flat (Instr.Store m r) = ap (λ m. Instr.Store m r) (memory_flat m)
blank_is_flat (Instr.LoadByte m n) = ap (λ s. Instr.LoadByte s 0) (operand_flat m)
blank_is_flat (Instr.Alu operation s) = ap (λ s. Instr.Alu operation s) (operand_flat s)
blank_is_flat (Instr.Inc m) = ap Instr.Inc (operand_flat m)
blank_is_flat (Instr.Dec m) = ap Instr.Dec (operand_flat m)
blank_is_flat (Instr.Rotate rotation m) = ap (λ s. Instr.Rotate rotation s) (operand_flat m)
blank_is_flat (Instr.Bit b m) = ap (λ s. Instr.Bit Octal.Zero s) (operand_flat m)
blank_is_flat (Instr.Set b m) = ap (λ s. Instr.Set Octal.Zero s) (operand_flat m)
blank_is_flat (Instr.Res b m) = ap (λ s. Instr.Res Octal.Zero s) (operand_flat m)
blank_is_flat _ = refl
