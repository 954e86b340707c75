-- The rows as the code reads them. The proofs tie them to those of specs/Rows.antt.
use Rattle.std.specs.Prelude.{List, [], ◌∷◌, Option, Some, None, pos}
use Rattle.std.specs.Option.{option_map}
use Rattle.z80_form.specs.Types.{Register, IndexRegister, Memory, Operand, Pointer, RegisterPair, WordRegister, HlOrIndex, Addend, StackOperand, Cond, ShortCond, AluOperation, Octal, InterruptMode, Instr, Name, Pointed, Form, Mnemonic}

-- Operands.

abbrev pub register_in : Form → Option Register
register_in (Form.Name Name.B) = Some Register.B
register_in (Form.Name Name.C) = Some Register.C
register_in (Form.Name Name.D) = Some Register.D
register_in (Form.Name Name.E) = Some Register.E
register_in (Form.Name Name.H) = Some Register.H
register_in (Form.Name Name.L) = Some Register.L
register_in (Form.Name Name.A) = Some Register.A
register_in _ = None

abbrev pub memory_in : Form → Option Memory
memory_in (Form.At Pointed.Hl) = Some Memory.Hl
memory_in (Form.AtIndex x) = Some (Memory.Indexed x (pos 0))
memory_in (Form.Displaced x) = Some (Memory.Indexed x (pos 0))
memory_in _ = None

abbrev pub either : {A : Type 0} → Option A → Option A → Option A
either (Some a) b = Some a
either None b = b

abbrev pub and_then : {A B : Type 0} → Option A → (A → Option B) → Option B
and_then None f = None
and_then (Some a) f = f a

abbrev pub operand_in : Form → Option Operand
operand_in form = either (option_map Operand.Memory (memory_in form)) (option_map Operand.Register (register_in form))

abbrev pub pair_in : Form → Option RegisterPair
pair_in (Form.Name Name.Bc) = Some RegisterPair.Bc
pair_in (Form.Name Name.De) = Some RegisterPair.De
pair_in (Form.Name Name.Hl) = Some RegisterPair.Hl
pair_in (Form.Name Name.Sp) = Some RegisterPair.Sp
pair_in _ = None

abbrev pub index_in : Form → Option IndexRegister
index_in (Form.Name Name.Ix) = Some IndexRegister.Ix
index_in (Form.Name Name.Iy) = Some IndexRegister.Iy
index_in _ = None

abbrev pub word_register_in : Form → Option WordRegister
word_register_in form = either (option_map WordRegister.Pair (pair_in form)) (option_map WordRegister.Index (index_in form))

abbrev pub hl_or_index_in : Form → Option HlOrIndex
hl_or_index_in (Form.Name Name.Hl) = Some HlOrIndex.Hl
hl_or_index_in form = option_map HlOrIndex.Index (index_in form)

abbrev pub at_hl_or_index_in : Form → Option HlOrIndex
at_hl_or_index_in (Form.At Pointed.Hl) = Some HlOrIndex.Hl
at_hl_or_index_in (Form.AtIndex x) = Some (HlOrIndex.Index x)
at_hl_or_index_in _ = None

-- a register that is added to an index register, possibly this register itself
abbrev pub addend_in : IndexRegister → Form → Option Addend
addend_in x (Form.Name Name.Bc) = Some Addend.Bc
addend_in x (Form.Name Name.De) = Some Addend.De
addend_in x (Form.Name Name.Sp) = Some Addend.Sp
addend_in IndexRegister.Ix (Form.Name Name.Ix) = Some Addend.Itself
addend_in IndexRegister.Iy (Form.Name Name.Iy) = Some Addend.Itself
addend_in _ _ = None

abbrev pub stack_operand_in : Form → Option StackOperand
stack_operand_in (Form.Name Name.Bc) = Some StackOperand.Bc
stack_operand_in (Form.Name Name.De) = Some StackOperand.De
stack_operand_in (Form.Name Name.Hl) = Some StackOperand.Hl
stack_operand_in (Form.Name Name.Af) = Some StackOperand.Af
stack_operand_in form = option_map StackOperand.Index (index_in form)

abbrev pub condition_in : Form → Option Cond
condition_in (Form.Name Name.Nz) = Some Cond.NotZero
condition_in (Form.Name Name.Z) = Some Cond.Zero
condition_in (Form.Name Name.Nc) = Some Cond.NotCarry
condition_in (Form.Name Name.C) = Some Cond.Carry
condition_in (Form.Name Name.Po) = Some Cond.ParityOdd
condition_in (Form.Name Name.Pe) = Some Cond.ParityEven
condition_in (Form.Name Name.P) = Some Cond.Plus
condition_in (Form.Name Name.M) = Some Cond.Minus
condition_in _ = None

abbrev pub short_condition_in : Form → Option ShortCond
short_condition_in (Form.Name Name.Nz) = Some ShortCond.NotZero
short_condition_in (Form.Name Name.Z) = Some ShortCond.Zero
short_condition_in (Form.Name Name.Nc) = Some ShortCond.NotCarry
short_condition_in (Form.Name Name.C) = Some ShortCond.Carry
short_condition_in _ = None

-- Instructions.

-- the instruction, if the operand is A; `if_number`: if it is a number
abbrev pub if_a : Form → Instr → Option Instr
if_a (Form.Name Name.A) instr = Some instr
if_a _ instr = None

abbrev pub if_number : Form → Instr → Option Instr
if_number Form.Number instr = Some instr
if_number _ instr = None

abbrev pub paired : {A B C : Type 0} → (A → B → C) → Option A → Option B → Option C
paired f (Some a) (Some b) = Some (f a b)
paired f _ _ = None

abbrev pub load_number : Form → Option Instr
load_number to = either (option_map (λ m. Instr.LoadByte m 0) (operand_in to)) (option_map (λ dd. Instr.LoadWord dd 0) (word_register_in to))

abbrev pub load_at_number : Form → Option Instr
load_at_number (Form.Name Name.A) = Some (Instr.LoadA (Pointer.Address 0))
load_at_number to = option_map (λ dd. Instr.LoadWordFrom dd 0) (word_register_in to)

abbrev pub store_at_number : Form → Option Instr
store_at_number (Form.Name Name.A) = Some (Instr.StoreA (Pointer.Address 0))
store_at_number from = option_map (λ dd. Instr.StoreWord dd 0) (word_register_in from)

abbrev pub load_a : Form → Option Instr
load_a (Form.Name Name.I) = Some Instr.LoadAFromI
load_a (Form.Name Name.R) = Some Instr.LoadAFromR
load_a from = option_map (λ s. Instr.Load Register.A (Operand.Register s)) (register_in from)

-- LD from a name: a register, a pair of registers, or I or R
abbrev pub load_name : Form → Form → Option Instr
load_name (Form.Name Name.A) from = load_a from
load_name (Form.Name Name.I) from = if_a from Instr.LoadIFromA
load_name (Form.Name Name.R) from = if_a from Instr.LoadRFromA
load_name (Form.Name Name.Sp) from = option_map Instr.LoadSp (hl_or_index_in from)
load_name (Form.Name to) from = paired (λ r s. Instr.Load r (Operand.Register s)) (register_in (Form.Name to)) (register_in from)
load_name (Form.At Pointed.Bc) from = if_a from (Instr.StoreA Pointer.Bc)
load_name (Form.At Pointed.De) from = if_a from (Instr.StoreA Pointer.De)
load_name Form.AtNumber from = store_at_number from
load_name to from = paired Instr.Store (memory_in to) (register_in from)

abbrev pub load : Form → Form → Option Instr
load to Form.Number = load_number to
load to Form.AtNumber = load_at_number to
load to (Form.At Pointed.Bc) = if_a to (Instr.LoadA Pointer.Bc)
load to (Form.At Pointed.De) = if_a to (Instr.LoadA Pointer.De)
load to (Form.Name from) = load_name to (Form.Name from)
load to from = paired (λ r m. Instr.Load r (Operand.Memory m)) (register_in to) (memory_in from)

abbrev pub exchange : Form → Form → Option Instr
exchange (Form.Name Name.De) (Form.Name Name.Hl) = Some Instr.ExDeHl
exchange (Form.Name Name.Af) (Form.Name Name.OtherAf) = Some Instr.ExAf
exchange (Form.At Pointed.Sp) with = option_map Instr.ExSp (hl_or_index_in with)
exchange _ with = None

abbrev pub on_byte : AluOperation → Form → Option Instr
on_byte operation Form.Number = Some (Instr.AluByte operation 0)
on_byte operation form = option_map (λ s. Instr.Alu operation s) (operand_in form)

abbrev pub add_index : IndexRegister → Form → Option Instr
add_index x form = option_map (λ pp. Instr.AddIndex x pp) (addend_in x form)

abbrev pub alone_read : Mnemonic → Option Instr
alone_read Mnemonic.Exx = Some Instr.Exx
alone_read (Mnemonic.Block operation step) = Some (Instr.Block operation step)
alone_read Mnemonic.Daa = Some Instr.Daa
alone_read Mnemonic.Cpl = Some Instr.Cpl
alone_read Mnemonic.Neg = Some Instr.Neg
alone_read Mnemonic.Ccf = Some Instr.Ccf
alone_read Mnemonic.Scf = Some Instr.Scf
alone_read Mnemonic.Nop = Some Instr.Nop
alone_read Mnemonic.Halt = Some Instr.Halt
alone_read Mnemonic.Di = Some Instr.Di
alone_read Mnemonic.Ei = Some Instr.Ei
alone_read Mnemonic.Rlca = Some Instr.Rlca
alone_read Mnemonic.Rla = Some Instr.Rla
alone_read Mnemonic.Rrca = Some Instr.Rrca
alone_read Mnemonic.Rra = Some Instr.Rra
alone_read Mnemonic.Rld = Some Instr.Rld
alone_read Mnemonic.Rrd = Some Instr.Rrd
alone_read Mnemonic.Ret = Some Instr.Ret
alone_read Mnemonic.Reti = Some Instr.Reti
alone_read Mnemonic.Retn = Some Instr.Retn
alone_read _ = None

abbrev pub one_on_byte : AluOperation → Form → Option Instr
one_on_byte AluOperation.Add form = None
one_on_byte AluOperation.Adc form = None
one_on_byte AluOperation.Sbc form = None
one_on_byte operation form = on_byte operation form

abbrev pub jump : Form → Option Instr
jump Form.Number = Some (Instr.Jump 0)
jump form = option_map Instr.JumpIndirect (at_hl_or_index_in form)

abbrev pub one_read : Mnemonic → Form → Option Instr
one_read Mnemonic.Push form = option_map Instr.Push (stack_operand_in form)
one_read Mnemonic.Pop form = option_map Instr.Pop (stack_operand_in form)
one_read (Mnemonic.Alu operation) form = one_on_byte operation form
one_read Mnemonic.Inc form = either (option_map Instr.Inc (operand_in form)) (option_map Instr.IncWord (word_register_in form))
one_read Mnemonic.Dec form = either (option_map Instr.Dec (operand_in form)) (option_map Instr.DecWord (word_register_in form))
one_read Mnemonic.Im form = if_number form (Instr.Im InterruptMode.Zero)
one_read (Mnemonic.Rotate rotation) form = option_map (λ m. Instr.Rotate rotation m) (operand_in form)
one_read Mnemonic.Jp form = jump form
one_read Mnemonic.Jr form = if_number form (Instr.JumpRelative (pos 0))
one_read Mnemonic.Djnz form = if_number form (Instr.Djnz (pos 0))
one_read Mnemonic.Call form = if_number form (Instr.Call 0)
one_read Mnemonic.Ret form = option_map Instr.RetIf (condition_in form)
one_read Mnemonic.Rst form = if_number form (Instr.Restart Octal.Zero)
one_read _ form = None

abbrev pub two_on_byte : AluOperation → Form → Form → Option Instr
two_on_byte AluOperation.Add (Form.Name Name.A) right = on_byte AluOperation.Add right
two_on_byte AluOperation.Adc (Form.Name Name.A) right = on_byte AluOperation.Adc right
two_on_byte AluOperation.Sbc (Form.Name Name.A) right = on_byte AluOperation.Sbc right
two_on_byte AluOperation.Add (Form.Name Name.Hl) right = option_map Instr.AddHl (pair_in right)
two_on_byte AluOperation.Adc (Form.Name Name.Hl) right = option_map Instr.AdcHl (pair_in right)
two_on_byte AluOperation.Sbc (Form.Name Name.Hl) right = option_map Instr.SbcHl (pair_in right)
two_on_byte AluOperation.Add (Form.Name Name.Ix) right = add_index IndexRegister.Ix right
two_on_byte AluOperation.Add (Form.Name Name.Iy) right = add_index IndexRegister.Iy right
two_on_byte _ left right = None

abbrev pub bit_operation : Mnemonic → Operand → Option Instr
bit_operation Mnemonic.Bit m = Some (Instr.Bit Octal.Zero m)
bit_operation Mnemonic.Set m = Some (Instr.Set Octal.Zero m)
bit_operation Mnemonic.Res m = Some (Instr.Res Octal.Zero m)
bit_operation _ m = None

abbrev pub on_bit : Mnemonic → Form → Form → Option Instr
on_bit m Form.Number form = and_then (operand_in form) (λ s. bit_operation m s)
on_bit m _ form = None

abbrev pub conditional_to : Mnemonic → Form → Option Instr
conditional_to Mnemonic.Jp cc = option_map (λ c. Instr.JumpIf c 0) (condition_in cc)
conditional_to Mnemonic.Jr cc = option_map (λ c. Instr.JumpRelativeIf c (pos 0)) (short_condition_in cc)
conditional_to Mnemonic.Call cc = option_map (λ c. Instr.CallIf c 0) (condition_in cc)
conditional_to _ cc = None

abbrev pub conditional : Mnemonic → Form → Form → Option Instr
conditional m cc Form.Number = conditional_to m cc
conditional m cc _ = None

abbrev pub input : Form → Form → Option Instr
input to Form.AtNumber = if_a to (Instr.InA 0)
input to (Form.At Pointed.C) = option_map Instr.InC (register_in to)
input to _ = None

abbrev pub output : Form → Form → Option Instr
output Form.AtNumber from = if_a from (Instr.OutA 0)
output (Form.At Pointed.C) from = option_map Instr.OutC (register_in from)
output _ from = None

abbrev pub two_read : Mnemonic → Form → Form → Option Instr
two_read Mnemonic.Ld left right = load left right
two_read Mnemonic.Ex left right = exchange left right
two_read (Mnemonic.Alu operation) left right = two_on_byte operation left right
two_read Mnemonic.Bit left right = on_bit Mnemonic.Bit left right
two_read Mnemonic.Set left right = on_bit Mnemonic.Set left right
two_read Mnemonic.Res left right = on_bit Mnemonic.Res left right
two_read Mnemonic.Jp left right = conditional Mnemonic.Jp left right
two_read Mnemonic.Jr left right = conditional Mnemonic.Jr left right
two_read Mnemonic.Call left right = conditional Mnemonic.Call left right
two_read Mnemonic.In left right = input left right
two_read Mnemonic.Out left right = output left right
two_read _ left right = None

abbrev pub instruction_read : Mnemonic → List Form → Option Instr
instruction_read m [] = alone_read m
instruction_read m (form ∷ []) = one_read m form
instruction_read m (left ∷ right ∷ []) = two_read m left right
instruction_read m _ = None
