-- How the documented instructions of the Z80 are written, one row in each equation.
--
-- From the Z80 CPU User Manual (Zilog UM0080), "Z80 Instruction Description": the manual's groups, in its order. A row has the
-- mnemonic and the forms of the operands, without their numbers. If the manual has one row for IX and one for IY, there is one row
-- here.
-- In words: docs/LANGUAGE.md, section 'Instructions'.
use Rattle.std.specs.Prelude.{List, [], ◌∷◌}
use Rattle.z80_form.specs.Types.{Register, IndexRegister, Memory, Operand, Pointer, RegisterPair, WordRegister, HlOrIndex, Addend, StackOperand, Cond, ShortCond, AluOperation, Instr, Name, Pointed, Form, Mnemonic}

-- Operands.

abbrev pub register : Register → Form
register Register.B = Form.Name Name.B
register Register.C = Form.Name Name.C
register Register.D = Form.Name Name.D
register Register.E = Form.Name Name.E
register Register.H = Form.Name Name.H
register Register.L = Form.Name Name.L
register Register.A = Form.Name Name.A

abbrev pub index : IndexRegister → Form
index IndexRegister.Ix = Form.Name Name.Ix
index IndexRegister.Iy = Form.Name Name.Iy

abbrev pub memory : Memory → Form
memory Memory.Hl = Form.At Pointed.Hl
memory (Memory.Indexed x d) = Form.Displaced x

abbrev pub operand_form : Operand → Form
operand_form (Operand.Register r) = register r
operand_form (Operand.Memory m) = memory m

abbrev pub pointer : Pointer → Form
pointer Pointer.Bc = Form.At Pointed.Bc
pointer Pointer.De = Form.At Pointed.De
pointer (Pointer.Address nn) = Form.AtNumber

abbrev pub pair : RegisterPair → Form
pair RegisterPair.Bc = Form.Name Name.Bc
pair RegisterPair.De = Form.Name Name.De
pair RegisterPair.Hl = Form.Name Name.Hl
pair RegisterPair.Sp = Form.Name Name.Sp

abbrev pub word_register : WordRegister → Form
word_register (WordRegister.Pair p) = pair p
word_register (WordRegister.Index x) = index x

abbrev pub hl_or_index : HlOrIndex → Form
hl_or_index HlOrIndex.Hl = Form.Name Name.Hl
hl_or_index (HlOrIndex.Index x) = index x

-- `(HL)`, `(IX)`
abbrev pub at_hl_or_index : HlOrIndex → Form
at_hl_or_index HlOrIndex.Hl = Form.At Pointed.Hl
at_hl_or_index (HlOrIndex.Index x) = Form.AtIndex x

-- a register that is added to an index register
abbrev pub addend : IndexRegister → Addend → Form
addend x Addend.Bc = Form.Name Name.Bc
addend x Addend.De = Form.Name Name.De
addend x Addend.Itself = index x
addend x Addend.Sp = Form.Name Name.Sp

abbrev pub stack_operand : StackOperand → Form
stack_operand StackOperand.Bc = Form.Name Name.Bc
stack_operand StackOperand.De = Form.Name Name.De
stack_operand StackOperand.Hl = Form.Name Name.Hl
stack_operand StackOperand.Af = Form.Name Name.Af
stack_operand (StackOperand.Index x) = index x

abbrev pub condition : Cond → Form
condition Cond.NotZero = Form.Name Name.Nz
condition Cond.Zero = Form.Name Name.Z
condition Cond.NotCarry = Form.Name Name.Nc
condition Cond.Carry = Form.Name Name.C
condition Cond.ParityOdd = Form.Name Name.Po
condition Cond.ParityEven = Form.Name Name.Pe
condition Cond.Plus = Form.Name Name.P
condition Cond.Minus = Form.Name Name.M

abbrev pub short_condition_form : ShortCond → Form
short_condition_form ShortCond.NotZero = Form.Name Name.Nz
short_condition_form ShortCond.Zero = Form.Name Name.Z
short_condition_form ShortCond.NotCarry = Form.Name Name.Nc
short_condition_form ShortCond.Carry = Form.Name Name.C

-- Rows.

pub record Row : Type 0 where
  pub mnemonic : Mnemonic
  pub operands : List Form

abbrev pub without_operands : Mnemonic → Row
without_operands m = record { mnemonic = m; operands = [] }

abbrev pub one : Mnemonic → Form → Row
one m operand = record { mnemonic = m; operands = operand ∷ [] }

abbrev pub two : Mnemonic → Form → Form → Row
two m left right = record { mnemonic = m; operands = left ∷ right ∷ [] }

-- three of the eight operations on A name it in their source form, since they can also be on HL
abbrev pub on_a : AluOperation → Form → Row
on_a AluOperation.Add operand = two (Mnemonic.Alu AluOperation.Add) (Form.Name Name.A) operand
on_a AluOperation.Adc operand = two (Mnemonic.Alu AluOperation.Adc) (Form.Name Name.A) operand
on_a AluOperation.Sbc operand = two (Mnemonic.Alu AluOperation.Sbc) (Form.Name Name.A) operand
on_a operation operand = one (Mnemonic.Alu operation) operand

abbrev pub row : Instr → Row
-- 8-bit load group
row (Instr.Load r s) = two Mnemonic.Ld (register r) (operand_form s)  -- LD r,r'; LD r,(HL); LD r,(IX+d)
row (Instr.Store m r) = two Mnemonic.Ld (memory m) (register r)  -- LD (HL),r; LD (IX+d),r
row (Instr.LoadByte m n) = two Mnemonic.Ld (operand_form m) Form.Number  -- LD r,n; LD (HL),n; LD (IX+d),n
row (Instr.LoadA from) = two Mnemonic.Ld (Form.Name Name.A) (pointer from)  -- LD A,(BC); LD A,(DE); LD A,(nn)
row (Instr.StoreA to) = two Mnemonic.Ld (pointer to) (Form.Name Name.A)  -- LD (BC),A; LD (DE),A; LD (nn),A
row Instr.LoadAFromI = two Mnemonic.Ld (Form.Name Name.A) (Form.Name Name.I)  -- LD A,I
row Instr.LoadAFromR = two Mnemonic.Ld (Form.Name Name.A) (Form.Name Name.R)  -- LD A,R
row Instr.LoadIFromA = two Mnemonic.Ld (Form.Name Name.I) (Form.Name Name.A)  -- LD I,A
row Instr.LoadRFromA = two Mnemonic.Ld (Form.Name Name.R) (Form.Name Name.A)  -- LD R,A
-- 16-bit load group
row (Instr.LoadWord dd nn) = two Mnemonic.Ld (word_register dd) Form.Number  -- LD dd,nn; LD IX,nn
row (Instr.LoadWordFrom dd nn) = two Mnemonic.Ld (word_register dd) Form.AtNumber  -- LD HL,(nn); LD dd,(nn); LD IX,(nn)
row (Instr.StoreWord dd nn) = two Mnemonic.Ld Form.AtNumber (word_register dd)  -- LD (nn),HL; LD (nn),dd; LD (nn),IX
row (Instr.LoadSp from) = two Mnemonic.Ld (Form.Name Name.Sp) (hl_or_index from)  -- LD SP,HL; LD SP,IX
row (Instr.Push qq) = one Mnemonic.Push (stack_operand qq)  -- PUSH qq; PUSH IX
row (Instr.Pop qq) = one Mnemonic.Pop (stack_operand qq)  -- POP qq; POP IX
-- Exchange, block transfer, and search group
row Instr.ExDeHl = two Mnemonic.Ex (Form.Name Name.De) (Form.Name Name.Hl)  -- EX DE,HL
row Instr.ExAf = two Mnemonic.Ex (Form.Name Name.Af) (Form.Name Name.OtherAf)  -- EX AF,AF'
row Instr.Exx = without_operands Mnemonic.Exx  -- EXX
row (Instr.ExSp with) = two Mnemonic.Ex (Form.At Pointed.Sp) (hl_or_index with)  -- EX (SP),HL; EX (SP),IX
row (Instr.Block operation step) = without_operands (Mnemonic.Block operation step)  -- LDI, LDIR .. CPDR; INI .. OTDR
-- 8-bit arithmetic group
row (Instr.Alu operation s) = on_a operation (operand_form s)  -- ADD A,r .. CP r; ADD A,(HL) .. CP (HL); ADD A,(IX+d) .. CP (IX+d)
row (Instr.AluByte operation n) = on_a operation Form.Number  -- ADD A,n .. CP n
row (Instr.Inc m) = one Mnemonic.Inc (operand_form m)  -- INC r; INC (HL); INC (IX+d)
row (Instr.Dec m) = one Mnemonic.Dec (operand_form m)  -- DEC r; DEC (HL); DEC (IX+d)
-- General-purpose arithmetic and CPU control groups
row Instr.Daa = without_operands Mnemonic.Daa  -- DAA
row Instr.Cpl = without_operands Mnemonic.Cpl  -- CPL
row Instr.Neg = without_operands Mnemonic.Neg  -- NEG
row Instr.Ccf = without_operands Mnemonic.Ccf  -- CCF
row Instr.Scf = without_operands Mnemonic.Scf  -- SCF
row Instr.Nop = without_operands Mnemonic.Nop  -- NOP
row Instr.Halt = without_operands Mnemonic.Halt  -- HALT
row Instr.Di = without_operands Mnemonic.Di  -- DI
row Instr.Ei = without_operands Mnemonic.Ei  -- EI
row (Instr.Im mode) = one Mnemonic.Im Form.Number  -- IM 0; IM 1; IM 2
-- 16-bit arithmetic group
row (Instr.AddHl ss) = two (Mnemonic.Alu AluOperation.Add) (Form.Name Name.Hl) (pair ss)  -- ADD HL,ss
row (Instr.AdcHl ss) = two (Mnemonic.Alu AluOperation.Adc) (Form.Name Name.Hl) (pair ss)  -- ADC HL,ss
row (Instr.SbcHl ss) = two (Mnemonic.Alu AluOperation.Sbc) (Form.Name Name.Hl) (pair ss)  -- SBC HL,ss
row (Instr.AddIndex x pp) = two (Mnemonic.Alu AluOperation.Add) (index x) (addend x pp)  -- ADD IX,pp
row (Instr.IncWord ss) = one Mnemonic.Inc (word_register ss)  -- INC ss; INC IX
row (Instr.DecWord ss) = one Mnemonic.Dec (word_register ss)  -- DEC ss; DEC IX
-- Rotate and shift group
row Instr.Rlca = without_operands Mnemonic.Rlca  -- RLCA
row Instr.Rla = without_operands Mnemonic.Rla  -- RLA
row Instr.Rrca = without_operands Mnemonic.Rrca  -- RRCA
row Instr.Rra = without_operands Mnemonic.Rra  -- RRA
row (Instr.Rotate rotation m) = one (Mnemonic.Rotate rotation) (operand_form m)  -- RLC r .. SRL r; RLC (HL); RLC (IX+d)
row Instr.Rld = without_operands Mnemonic.Rld  -- RLD
row Instr.Rrd = without_operands Mnemonic.Rrd  -- RRD
-- Bit set, reset, and test group
row (Instr.Bit b m) = two Mnemonic.Bit Form.Number (operand_form m)  -- BIT b,r; BIT b,(HL); BIT b,(IX+d)
row (Instr.Set b m) = two Mnemonic.Set Form.Number (operand_form m)  -- SET b,r; SET b,(HL); SET b,(IX+d)
row (Instr.Res b m) = two Mnemonic.Res Form.Number (operand_form m)  -- RES b,r; RES b,(HL); RES b,(IX+d)
-- Jump group
row (Instr.Jump nn) = one Mnemonic.Jp Form.Number  -- JP nn
row (Instr.JumpIf cc nn) = two Mnemonic.Jp (condition cc) Form.Number  -- JP cc,nn
row (Instr.JumpRelative e) = one Mnemonic.Jr Form.Number  -- JR e
row (Instr.JumpRelativeIf cc e) = two Mnemonic.Jr (short_condition_form cc) Form.Number  -- JR C,e; JR NC,e; JR Z,e; JR NZ,e
row (Instr.JumpIndirect to) = one Mnemonic.Jp (at_hl_or_index to)  -- JP (HL); JP (IX)
row (Instr.Djnz e) = one Mnemonic.Djnz Form.Number  -- DJNZ e
-- Call and return group
row (Instr.Call nn) = one Mnemonic.Call Form.Number  -- CALL nn
row (Instr.CallIf cc nn) = two Mnemonic.Call (condition cc) Form.Number  -- CALL cc,nn
row Instr.Ret = without_operands Mnemonic.Ret  -- RET
row (Instr.RetIf cc) = one Mnemonic.Ret (condition cc)  -- RET cc
row Instr.Reti = without_operands Mnemonic.Reti  -- RETI
row Instr.Retn = without_operands Mnemonic.Retn  -- RETN
row (Instr.Restart t) = one Mnemonic.Rst Form.Number  -- RST p
-- Input and output group
row (Instr.InA n) = two Mnemonic.In (Form.Name Name.A) Form.AtNumber  -- IN A,(n)
row (Instr.InC r) = two Mnemonic.In (register r) (Form.At Pointed.C)  -- IN r,(C)
row (Instr.OutA n) = two Mnemonic.Out Form.AtNumber (Form.Name Name.A)  -- OUT (n),A
row (Instr.OutC r) = two Mnemonic.Out (Form.At Pointed.C) (register r)  -- OUT (C),r
