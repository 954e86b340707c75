-- How an instruction is printed: in its row of `z80_form`, the table by which the assembler reads instructions, with its numbers.
use Rattle.std.specs.Prelude.{ℕ, ℤ, pos, ◌+ℤ◌, ◌*◌, List, [], ◌∷◌, ◌++◌, codes, decimal, if◌then◌else◌, int_lt, map, nat_le, unsigned_abs}
use Rattle.std.specs.List.{flat_map}
use Rattle.hex.specs.Hex.{encode_upper}
use Rattle.z80_instr.specs.Table.{octal_code}
use Rattle.z80_form.specs.Rows.{Row, row}
use Rattle.z80_form.specs.Types.{IndexRegister, Instr, InterruptMode, Memory, Operand, Pointer}
use Rattle.z80_form.specs.declared.form.Form.{Form}
use Rattle.z80_form.specs.declared.form.Pointed.{Pointed}
use Rattle.z80_form.specs.Words.{mnemonic_word, operand_word}
use Rattle.state_text.specs.Printing.Columns.{word_text}

-- a byte and a word as hexadecimal numbers of the assembler, which begin with a digit
abbrev pub byte_number : ℕ → List ℕ
byte_number byte = (if nat_le 0xA0 byte then codes "0" else []) ++ encode_upper (byte ∷ []) ++ codes "H"

abbrev pub word_number : ℕ → List ℕ
word_number word = (if nat_le 0xA000 word then codes "0" else []) ++ word_text word ++ codes "H"

-- a number in decimal after its sign
abbrev pub number_with_sign : ℤ → List ℕ
number_with_sign n = (if int_lt n (pos 0) then codes "-" else codes "+") ++ decimal (unsigned_abs n)

-- the target of a relative jump: how far it is from the jump itself, which has two bytes
abbrev pub goal_text : ℤ → List ℕ
goal_text e = codes "$" ++ number_with_sign (e +ℤ pos 2)

abbrev pub mode_text : InterruptMode → List ℕ
mode_text InterruptMode.Zero = codes "0"
mode_text InterruptMode.One = codes "1"
mode_text InterruptMode.Two = codes "2"

abbrev pub pointer_number : Pointer → List ℕ
pointer_number (Pointer.Address nn) = word_number nn
pointer_number register = []

-- the number of an instruction that is not its displacement
abbrev pub instr_number : Instr → List ℕ
instr_number (Instr.LoadByte m n) = byte_number n
instr_number (Instr.LoadA from) = pointer_number from
instr_number (Instr.StoreA to) = pointer_number to
instr_number (Instr.LoadWord dd nn) = word_number nn
instr_number (Instr.LoadWordFrom dd nn) = word_number nn
instr_number (Instr.StoreWord dd nn) = word_number nn
instr_number (Instr.AluByte operation n) = byte_number n
instr_number (Instr.Im mode) = mode_text mode
instr_number (Instr.Bit b m) = decimal (octal_code b)
instr_number (Instr.Set b m) = decimal (octal_code b)
instr_number (Instr.Res b m) = decimal (octal_code b)
instr_number (Instr.Jump nn) = word_number nn
instr_number (Instr.JumpIf cc nn) = word_number nn
instr_number (Instr.JumpRelative e) = goal_text e
instr_number (Instr.JumpRelativeIf cc e) = goal_text e
instr_number (Instr.Djnz e) = goal_text e
instr_number (Instr.Call nn) = word_number nn
instr_number (Instr.CallIf cc nn) = word_number nn
instr_number (Instr.Restart t) = byte_number (8 * octal_code t)
instr_number (Instr.InA n) = byte_number n
instr_number (Instr.OutA n) = byte_number n
instr_number other = []

-- the displacement of an instruction, if it has one
abbrev pub memory_displacement : Memory → ℤ
memory_displacement Memory.Hl = pos 0
memory_displacement (Memory.Indexed x d) = d

abbrev pub operand_displacement : Operand → ℤ
operand_displacement (Operand.Register r) = pos 0
operand_displacement (Operand.Memory m) = memory_displacement m

abbrev pub instr_displacement : Instr → ℤ
instr_displacement (Instr.Load r s) = operand_displacement s
instr_displacement (Instr.Store m r) = memory_displacement m
instr_displacement (Instr.LoadByte m n) = operand_displacement m
instr_displacement (Instr.Alu operation s) = operand_displacement s
instr_displacement (Instr.Inc m) = operand_displacement m
instr_displacement (Instr.Dec m) = operand_displacement m
instr_displacement (Instr.Rotate rotation m) = operand_displacement m
instr_displacement (Instr.Bit b m) = operand_displacement m
instr_displacement (Instr.Set b m) = operand_displacement m
instr_displacement (Instr.Res b m) = operand_displacement m
instr_displacement other = pos 0

abbrev pub pointed_word : Pointed → List ℕ
pointed_word Pointed.Hl = codes "HL"
pointed_word Pointed.Bc = codes "BC"
pointed_word Pointed.De = codes "DE"
pointed_word Pointed.Sp = codes "SP"
pointed_word Pointed.C = codes "C"

abbrev pub index_word : IndexRegister → List ℕ
index_word IndexRegister.Ix = codes "IX"
index_word IndexRegister.Iy = codes "IY"

abbrev pub in_parentheses : List ℕ → List ℕ
in_parentheses text = codes "(" ++ text ++ codes ")"

-- an operand of an instruction, in this form
abbrev pub operand_text : Instr → Form → List ℕ
operand_text instr (Form.Name name) = operand_word name
operand_text instr (Form.At pointed) = in_parentheses (pointed_word pointed)
operand_text instr (Form.AtIndex x) = in_parentheses (index_word x)
operand_text instr (Form.Displaced x) = in_parentheses (index_word x ++ number_with_sign (instr_displacement instr))
operand_text instr Form.AtNumber = in_parentheses (instr_number instr)
operand_text instr Form.Number = instr_number instr

-- operands, with commas between them, after a blank
abbrev pub operands_text : List (List ℕ) → List ℕ
operands_text [] = []
operands_text (first ∷ more) = codes " " ++ first ++ flat_map (λ operand. codes "," ++ operand) more

abbrev pub row_text : Instr → Row → List ℕ
row_text instr row = mnemonic_word row.mnemonic ++ operands_text (map (operand_text instr) row.operands)

-- The mnemonic and the operands of the instruction's row, with the numbers of the instruction.
abbrev pub instr_text : Instr → List ℕ
instr_text instr = row_text instr (row instr)
