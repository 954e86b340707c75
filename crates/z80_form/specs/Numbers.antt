-- The numbers of an instruction: which of them an operand's expression fills, and the instruction with a number put in.
-- In words: docs/LANGUAGE.md, section 'Instructions'.
use Rattle.std.specs.Prelude.{◌≡◌, ◌≢◌, ℕ, zero, suc, ◌-◌, ◌/◌, ◌%◌, Bool, true, false, ◌&&◌, ◌||◌, ◌==◌, nat_lt, nat_le, List, [], ◌∷◌, Option, Some, None, ℤ, map, take, length, All, option_to_list, if◌then◌else◌}
use Rattle.std.specs.List.{filter_map}
use Rattle.std.specs.Int.{w8, cast_signed}
use Rattle.z80_instr.specs.Table.{octal_of}
use Rattle.z80_form.specs.Types.{Memory, Operand, Pointer, Octal, InterruptMode, Instr, Form, Field}
use Rattle.z80_form.specs.Rows.{row}

-- the field that the operand `n`, `nn`, `(n)`, `(nn)`, `e`, `b` or `p` of an instruction fills, if it has one
abbrev pub number_field : Instr → Option Field
number_field (Instr.LoadByte m n) = Some Field.Byte
number_field (Instr.LoadA (Pointer.Address nn)) = Some Field.Word
number_field (Instr.StoreA (Pointer.Address nn)) = Some Field.Word
number_field (Instr.LoadWord dd nn) = Some Field.Word
number_field (Instr.LoadWordFrom dd nn) = Some Field.Word
number_field (Instr.StoreWord dd nn) = Some Field.Word
number_field (Instr.AluByte operation n) = Some Field.Byte
number_field (Instr.Im mode) = Some Field.Mode
number_field (Instr.Bit b m) = Some Field.Bit
number_field (Instr.Set b m) = Some Field.Bit
number_field (Instr.Res b m) = Some Field.Bit
number_field (Instr.Jump nn) = Some Field.Word
number_field (Instr.JumpIf cc nn) = Some Field.Word
number_field (Instr.JumpRelative e) = Some Field.Distance
number_field (Instr.JumpRelativeIf cc e) = Some Field.Distance
number_field (Instr.Djnz e) = Some Field.Distance
number_field (Instr.Call nn) = Some Field.Word
number_field (Instr.CallIf cc nn) = Some Field.Word
number_field (Instr.Restart t) = Some Field.Restart
number_field (Instr.InA n) = Some Field.Byte
number_field (Instr.OutA n) = Some Field.Byte
number_field _ = None

-- the field that the expression of an operand fills
abbrev pub field_of : Instr → Form → Option Field
field_of instr (Form.Displaced x) = Some Field.Displacement
field_of instr Form.AtNumber = number_field instr
field_of instr Form.Number = number_field instr
field_of instr _ = None

-- whether an operand has an expression
abbrev pub has_expression : Form → Bool
has_expression (Form.Displaced x) = true
has_expression Form.AtNumber = true
has_expression Form.Number = true
has_expression _ = false

-- Each expression among the operands fills a field of the instruction.
abbrev pub HasFields : Instr → List Form → Type 0
HasFields instr operands = All (λ form. has_expression form ≡ true → field_of instr form ≢ None) operands

-- the fields that the expressions of operands fill, from left to right
abbrev pub fields_of : Instr → List Form → List Field
fields_of instr operands = filter_map (field_of instr) operands

-- the fields that the expressions in the instruction's row fill
abbrev pub fields : Instr → List Field
fields instr = fields_of instr (row instr).operands

-- Numbers have 16 bits; negative ones are given modulo 65,536.

-- whether a number is from -128 to -1, modulo 65,536
abbrev pub is_negative : ℕ → Bool
is_negative value = nat_le (65536 - 128) value && nat_lt value 65536

-- whether a field allows a number
abbrev pub allows : Field → ℕ → Bool
allows Field.Byte value = nat_lt value 256 || is_negative value
allows Field.Word value = nat_lt value 65536
allows Field.Displacement value = nat_lt value 128 || is_negative value
allows Field.Distance value = nat_lt value 128 || is_negative value
allows Field.Bit value = nat_lt value 8
allows Field.Mode value = nat_lt value 3
allows Field.Restart value = nat_lt value 64 && (value % 8 == 0)

-- Putting numbers in.

abbrev pub memory_at : ℤ → Memory → Memory
memory_at d Memory.Hl = Memory.Hl
memory_at d (Memory.Indexed x _) = Memory.Indexed x d

abbrev pub operand_at : ℤ → Operand → Operand
operand_at d (Operand.Register r) = Operand.Register r
operand_at d (Operand.Memory m) = Operand.Memory (memory_at d m)

abbrev pub with_displacement : ℤ → Instr → Instr
with_displacement d (Instr.Load r s) = Instr.Load r (operand_at d s)
with_displacement d (Instr.Store m r) = Instr.Store (memory_at d m) r
with_displacement d (Instr.LoadByte m n) = Instr.LoadByte (operand_at d m) n
with_displacement d (Instr.Alu operation s) = Instr.Alu operation (operand_at d s)
with_displacement d (Instr.Inc m) = Instr.Inc (operand_at d m)
with_displacement d (Instr.Dec m) = Instr.Dec (operand_at d m)
with_displacement d (Instr.Rotate rotation m) = Instr.Rotate rotation (operand_at d m)
with_displacement d (Instr.Bit b m) = Instr.Bit b (operand_at d m)
with_displacement d (Instr.Set b m) = Instr.Set b (operand_at d m)
with_displacement d (Instr.Res b m) = Instr.Res b (operand_at d m)
with_displacement d instr = instr

abbrev pub with_byte : ℕ → Instr → Instr
with_byte n (Instr.LoadByte m _) = Instr.LoadByte m n
with_byte n (Instr.AluByte operation _) = Instr.AluByte operation n
with_byte n (Instr.InA _) = Instr.InA n
with_byte n (Instr.OutA _) = Instr.OutA n
with_byte n instr = instr

abbrev pub pointer_at : ℕ → Pointer → Pointer
pointer_at nn (Pointer.Address _) = Pointer.Address nn
pointer_at nn pointer = pointer

abbrev pub with_word_operand : ℕ → Instr → Instr
with_word_operand nn (Instr.LoadA from) = Instr.LoadA (pointer_at nn from)
with_word_operand nn (Instr.StoreA to) = Instr.StoreA (pointer_at nn to)
with_word_operand nn (Instr.LoadWord dd _) = Instr.LoadWord dd nn
with_word_operand nn (Instr.LoadWordFrom dd _) = Instr.LoadWordFrom dd nn
with_word_operand nn (Instr.StoreWord dd _) = Instr.StoreWord dd nn
with_word_operand nn (Instr.Jump _) = Instr.Jump nn
with_word_operand nn (Instr.JumpIf cc _) = Instr.JumpIf cc nn
with_word_operand nn (Instr.Call _) = Instr.Call nn
with_word_operand nn (Instr.CallIf cc _) = Instr.CallIf cc nn
with_word_operand nn instr = instr

abbrev pub with_distance : ℤ → Instr → Instr
with_distance e (Instr.JumpRelative _) = Instr.JumpRelative e
with_distance e (Instr.JumpRelativeIf cc _) = Instr.JumpRelativeIf cc e
with_distance e (Instr.Djnz _) = Instr.Djnz e
with_distance e instr = instr

abbrev pub with_bit : Octal → Instr → Instr
with_bit b (Instr.Bit _ m) = Instr.Bit b m
with_bit b (Instr.Set _ m) = Instr.Set b m
with_bit b (Instr.Res _ m) = Instr.Res b m
with_bit b instr = instr

abbrev pub with_mode : InterruptMode → Instr → Instr
with_mode mode (Instr.Im _) = Instr.Im mode
with_mode mode instr = instr

abbrev pub with_restart : Octal → Instr → Instr
with_restart t (Instr.Restart _) = Instr.Restart t
with_restart t instr = instr

abbrev pub mode_of : ℕ → InterruptMode
mode_of zero = InterruptMode.Zero
mode_of (suc zero) = InterruptMode.One
mode_of _ = InterruptMode.Two

-- the low byte as a signed number
abbrev pub signed : ℕ → ℤ
signed value = cast_signed w8 (value % 256)

-- The instruction with a number in its field. A byte takes the low byte of the number, and a restart takes its address.
abbrev pub with_number : Field → ℕ → Instr → Instr
with_number Field.Byte value instr = with_byte (value % 256) instr
with_number Field.Word value instr = with_word_operand value instr
with_number Field.Displacement value instr = with_displacement (signed value) instr
with_number Field.Distance value instr = with_distance (signed value) instr
with_number Field.Bit value instr = with_bit (octal_of value) instr
with_number Field.Mode value instr = with_mode (mode_of value) instr
with_number Field.Restart value instr = with_restart (octal_of (value / 8)) instr

abbrev pub with_numbers : List (Field × ℕ) → Instr → Instr
with_numbers [] instr = instr
with_numbers (n ∷ ns) instr = with_numbers ns (with_number n.0 n.1 instr)

abbrev pub AreAllowed : List (Field × ℕ) → Type 0
AreAllowed numbers = All (λ n. allows n.0 n.1 ≡ true) numbers

-- a zero for each field
abbrev pub zeros : List (Field × ℕ)
zeros = (Field.Byte, 0) ∷ (Field.Word, 0) ∷ (Field.Displacement, 0) ∷ (Field.Distance, 0) ∷ (Field.Bit, 0) ∷ (Field.Mode, 0) ∷ (Field.Restart, 0) ∷ []

abbrev pub with_zeros : Instr → Instr
with_zeros instr = with_numbers zeros instr

-- The instruction has these numbers, one for each expression of its operands, from left to right.
pub record HasNumbers (instr : Instr) (numbers : List (Field × ℕ)) : Type 0 where
  pub fields_are : map (λ n. n.0) numbers ≡ fields instr
  pub allowed : AreAllowed numbers
  pub filled : with_numbers numbers (with_zeros instr) ≡ instr

-- Where the numbers are in the bytes.

-- the bytes without the last n
abbrev pub but_last : ℕ → List ℕ → List ℕ
but_last n bytes = take (length bytes - n) bytes

-- whether an operand is a byte at IX or IY plus a displacement
abbrev pub memory_is_displaced : Memory → Bool
memory_is_displaced Memory.Hl = false
memory_is_displaced (Memory.Indexed x d) = true

abbrev pub operand_is_displaced : Operand → Bool
operand_is_displaced (Operand.Register r) = false
operand_is_displaced (Operand.Memory m) = memory_is_displaced m

abbrev pub has_displacement : Instr → Bool
has_displacement (Instr.Load r s) = operand_is_displaced s
has_displacement (Instr.Store m r) = memory_is_displaced m
has_displacement (Instr.LoadByte m n) = operand_is_displaced m
has_displacement (Instr.Alu operation s) = operand_is_displaced s
has_displacement (Instr.Inc m) = operand_is_displaced m
has_displacement (Instr.Dec m) = operand_is_displaced m
has_displacement (Instr.Rotate rotation m) = operand_is_displaced m
has_displacement (Instr.Bit b m) = operand_is_displaced m
has_displacement (Instr.Set b m) = operand_is_displaced m
has_displacement (Instr.Res b m) = operand_is_displaced m
has_displacement _ = false

-- The numbers of an instruction are a displacement and one other number, if it has them.

abbrev pub displacement_fields : Instr → List Field
displacement_fields instr = if has_displacement instr then Field.Displacement ∷ [] else []

abbrev pub number_fields : Instr → List Field
number_fields instr = option_to_list (number_field instr)
