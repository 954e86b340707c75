-- The documented instructions of the Z80 and their encodings, one equation for each row.
--
-- From the Z80 CPU User Manual (Zilog UM0080), "Z80 Instruction Description": the manual's groups, in its order, its mnemonic at the end
-- of each row. Where a row has IX, the manual has one for IY too.
use Rattle.std.specs.Prelude.{ℕ, ◌+◌, ◌*◌, ◌/◌, ◌%◌, List, [], ◌∷◌, Option, Some, None, ℤ, slice_index_or}
use Rattle.std.specs.Int.{w8, cast_unsigned}
use Rattle.z80_instr.specs.Types.{Register, IndexRegister, Memory, Operand, Pointer, RegisterPair, WordRegister, HlOrIndex, Addend, StackOperand, Cond, ShortCond, AluOperation, Rotation, Octal, InterruptMode, BlockOperation, BlockStep, Instr}

-- Codes of the fields of an opcode.

-- r; (HL) as an operand has code 6
abbrev pub register_code : Register → ℕ
register_code Register.B = 0
register_code Register.C = 1
register_code Register.D = 2
register_code Register.E = 3
register_code Register.H = 4
register_code Register.L = 5
register_code Register.A = 7

-- dd and ss
abbrev pub pair_code : RegisterPair → ℕ
pair_code RegisterPair.Bc = 0
pair_code RegisterPair.De = 1
pair_code RegisterPair.Hl = 2
pair_code RegisterPair.Sp = 3

-- pp and rr
abbrev pub addend_code : Addend → ℕ
addend_code Addend.Bc = 0
addend_code Addend.De = 1
addend_code Addend.Itself = 2
addend_code Addend.Sp = 3

-- cc
abbrev pub condition_code : Cond → ℕ
condition_code Cond.NotZero = 0
condition_code Cond.Zero = 1
condition_code Cond.NotCarry = 2
condition_code Cond.Carry = 3
condition_code Cond.ParityOdd = 4
condition_code Cond.ParityEven = 5
condition_code Cond.Plus = 6
condition_code Cond.Minus = 7

abbrev pub short_condition_code : ShortCond → ℕ
short_condition_code ShortCond.NotZero = 0
short_condition_code ShortCond.Zero = 1
short_condition_code ShortCond.NotCarry = 2
short_condition_code ShortCond.Carry = 3

abbrev pub operation_code : AluOperation → ℕ
operation_code AluOperation.Add = 0
operation_code AluOperation.Adc = 1
operation_code AluOperation.Sub = 2
operation_code AluOperation.Sbc = 3
operation_code AluOperation.And = 4
operation_code AluOperation.Xor = 5
operation_code AluOperation.Or = 6
operation_code AluOperation.Cp = 7

abbrev pub rotation_code : Rotation → ℕ
rotation_code Rotation.Rlc = 0
rotation_code Rotation.Rrc = 1
rotation_code Rotation.Rl = 2
rotation_code Rotation.Rr = 3
rotation_code Rotation.Sla = 4
rotation_code Rotation.Sra = 5
rotation_code Rotation.Srl = 7

-- b, and the t of RST
abbrev pub octal_code : Octal → ℕ
octal_code Octal.Zero = 0
octal_code Octal.One = 1
octal_code Octal.Two = 2
octal_code Octal.Three = 3
octal_code Octal.Four = 4
octal_code Octal.Five = 5
octal_code Octal.Six = 6
octal_code Octal.Seven = 7

-- a number below 8 as a value of the type
abbrev pub octal_of : ℕ → Octal
octal_of n = slice_index_or (Octal.Zero ∷ Octal.One ∷ Octal.Two ∷ Octal.Three ∷ Octal.Four ∷ Octal.Five ∷ Octal.Six ∷ Octal.Seven ∷ []) n Octal.Zero

abbrev pub block_operation_code : BlockOperation → ℕ
block_operation_code BlockOperation.Load = 0
block_operation_code BlockOperation.Compare = 1
block_operation_code BlockOperation.Input = 2
block_operation_code BlockOperation.Output = 3

abbrev pub block_step_code : BlockStep → ℕ
block_step_code BlockStep.Increment = 0
block_step_code BlockStep.Decrement = 1
block_step_code BlockStep.IncrementRepeat = 2
block_step_code BlockStep.DecrementRepeat = 3

-- Bytes.

-- the first byte of an instruction that has an index register
abbrev pub prefix : IndexRegister → ℕ
prefix IndexRegister.Ix = 0xDD
prefix IndexRegister.Iy = 0xFD

-- nn: low byte first
abbrev pub word : ℕ → List ℕ
word nn = (nn % 256) ∷ (nn / 256) ∷ []

-- d and e: the byte of a signed number, in two's complement
abbrev pub signed_byte : ℤ → ℕ
signed_byte d = cast_unsigned w8 d

-- The canonical encoding of each instruction. If two rows fit, the upper one counts.
abbrev pub canonical : Instr → List ℕ
-- 8-bit load group
canonical (Instr.Load r (Operand.Register s)) = (0x40 + 8 * register_code r + register_code s) ∷ []  -- LD r,r'
canonical (Instr.LoadByte (Operand.Register r) n) = (0x06 + 8 * register_code r) ∷ n ∷ []  -- LD r,n
canonical (Instr.Load r (Operand.Memory Memory.Hl)) = (0x46 + 8 * register_code r) ∷ []  -- LD r,(HL)
canonical (Instr.Load r (Operand.Memory (Memory.Indexed x d))) = prefix x ∷ (0x46 + 8 * register_code r) ∷ signed_byte d ∷ []  -- LD r,(IX+d)
canonical (Instr.Store Memory.Hl r) = (0x70 + register_code r) ∷ []  -- LD (HL),r
canonical (Instr.Store (Memory.Indexed x d) r) = prefix x ∷ (0x70 + register_code r) ∷ signed_byte d ∷ []  -- LD (IX+d),r
canonical (Instr.LoadByte (Operand.Memory Memory.Hl) n) = 0x36 ∷ n ∷ []  -- LD (HL),n
canonical (Instr.LoadByte (Operand.Memory (Memory.Indexed x d)) n) = prefix x ∷ 0x36 ∷ signed_byte d ∷ n ∷ []  -- LD (IX+d),n
canonical (Instr.LoadA Pointer.Bc) = 0x0A ∷ []  -- LD A,(BC)
canonical (Instr.LoadA Pointer.De) = 0x1A ∷ []  -- LD A,(DE)
canonical (Instr.LoadA (Pointer.Address nn)) = 0x3A ∷ word nn  -- LD A,(nn)
canonical (Instr.StoreA Pointer.Bc) = 0x02 ∷ []  -- LD (BC),A
canonical (Instr.StoreA Pointer.De) = 0x12 ∷ []  -- LD (DE),A
canonical (Instr.StoreA (Pointer.Address nn)) = 0x32 ∷ word nn  -- LD (nn),A
canonical Instr.LoadAFromI = 0xED ∷ 0x57 ∷ []  -- LD A,I
canonical Instr.LoadAFromR = 0xED ∷ 0x5F ∷ []  -- LD A,R
canonical Instr.LoadIFromA = 0xED ∷ 0x47 ∷ []  -- LD I,A
canonical Instr.LoadRFromA = 0xED ∷ 0x4F ∷ []  -- LD R,A
-- 16-bit load group
canonical (Instr.LoadWord (WordRegister.Pair dd) nn) = (0x01 + 16 * pair_code dd) ∷ word nn  -- LD dd,nn
canonical (Instr.LoadWord (WordRegister.Index x) nn) = prefix x ∷ 0x21 ∷ word nn  -- LD IX,nn
canonical (Instr.LoadWordFrom (WordRegister.Pair RegisterPair.Hl) nn) = 0x2A ∷ word nn  -- LD HL,(nn)
canonical (Instr.LoadWordFrom (WordRegister.Pair dd) nn) = 0xED ∷ (0x4B + 16 * pair_code dd) ∷ word nn  -- LD dd,(nn)
canonical (Instr.LoadWordFrom (WordRegister.Index x) nn) = prefix x ∷ 0x2A ∷ word nn  -- LD IX,(nn)
canonical (Instr.StoreWord (WordRegister.Pair RegisterPair.Hl) nn) = 0x22 ∷ word nn  -- LD (nn),HL
canonical (Instr.StoreWord (WordRegister.Pair dd) nn) = 0xED ∷ (0x43 + 16 * pair_code dd) ∷ word nn  -- LD (nn),dd
canonical (Instr.StoreWord (WordRegister.Index x) nn) = prefix x ∷ 0x22 ∷ word nn  -- LD (nn),IX
canonical (Instr.LoadSp HlOrIndex.Hl) = 0xF9 ∷ []  -- LD SP,HL
canonical (Instr.LoadSp (HlOrIndex.Index x)) = prefix x ∷ 0xF9 ∷ []  -- LD SP,IX
canonical (Instr.Push StackOperand.Bc) = 0xC5 ∷ []  -- PUSH qq
canonical (Instr.Push StackOperand.De) = 0xD5 ∷ []
canonical (Instr.Push StackOperand.Hl) = 0xE5 ∷ []
canonical (Instr.Push StackOperand.Af) = 0xF5 ∷ []
canonical (Instr.Push (StackOperand.Index x)) = prefix x ∷ 0xE5 ∷ []  -- PUSH IX
canonical (Instr.Pop StackOperand.Bc) = 0xC1 ∷ []  -- POP qq
canonical (Instr.Pop StackOperand.De) = 0xD1 ∷ []
canonical (Instr.Pop StackOperand.Hl) = 0xE1 ∷ []
canonical (Instr.Pop StackOperand.Af) = 0xF1 ∷ []
canonical (Instr.Pop (StackOperand.Index x)) = prefix x ∷ 0xE1 ∷ []  -- POP IX
-- Exchange, block transfer, and search group
canonical Instr.ExDeHl = 0xEB ∷ []  -- EX DE,HL
canonical Instr.ExAf = 0x08 ∷ []  -- EX AF,AF'
canonical Instr.Exx = 0xD9 ∷ []  -- EXX
canonical (Instr.ExSp HlOrIndex.Hl) = 0xE3 ∷ []  -- EX (SP),HL
canonical (Instr.ExSp (HlOrIndex.Index x)) = prefix x ∷ 0xE3 ∷ []  -- EX (SP),IX
canonical (Instr.Block operation step) = 0xED ∷ (0xA0 + 8 * block_step_code step + block_operation_code operation) ∷ []  -- LDI, LDIR .. CPDR; INI .. OTDR
-- 8-bit arithmetic group
canonical (Instr.Alu operation (Operand.Register r)) = (0x80 + 8 * operation_code operation + register_code r) ∷ []  -- ADD A,r .. CP r
canonical (Instr.AluByte operation n) = (0xC6 + 8 * operation_code operation) ∷ n ∷ []  -- ADD A,n .. CP n
canonical (Instr.Alu operation (Operand.Memory Memory.Hl)) = (0x86 + 8 * operation_code operation) ∷ []  -- ADD A,(HL) .. CP (HL)
canonical (Instr.Alu operation (Operand.Memory (Memory.Indexed x d))) = prefix x ∷ (0x86 + 8 * operation_code operation) ∷ signed_byte d ∷ []  -- ADD A,(IX+d) .. CP (IX+d)
canonical (Instr.Inc (Operand.Register r)) = (0x04 + 8 * register_code r) ∷ []  -- INC r
canonical (Instr.Inc (Operand.Memory Memory.Hl)) = 0x34 ∷ []  -- INC (HL)
canonical (Instr.Inc (Operand.Memory (Memory.Indexed x d))) = prefix x ∷ 0x34 ∷ signed_byte d ∷ []  -- INC (IX+d)
canonical (Instr.Dec (Operand.Register r)) = (0x05 + 8 * register_code r) ∷ []  -- DEC r
canonical (Instr.Dec (Operand.Memory Memory.Hl)) = 0x35 ∷ []  -- DEC (HL)
canonical (Instr.Dec (Operand.Memory (Memory.Indexed x d))) = prefix x ∷ 0x35 ∷ signed_byte d ∷ []  -- DEC (IX+d)
-- General-purpose arithmetic and CPU control groups
canonical Instr.Daa = 0x27 ∷ []  -- DAA
canonical Instr.Cpl = 0x2F ∷ []  -- CPL
canonical Instr.Neg = 0xED ∷ 0x44 ∷ []  -- NEG
canonical Instr.Ccf = 0x3F ∷ []  -- CCF
canonical Instr.Scf = 0x37 ∷ []  -- SCF
canonical Instr.Nop = 0x00 ∷ []  -- NOP
canonical Instr.Halt = 0x76 ∷ []  -- HALT
canonical Instr.Di = 0xF3 ∷ []  -- DI
canonical Instr.Ei = 0xFB ∷ []  -- EI
canonical (Instr.Im InterruptMode.Zero) = 0xED ∷ 0x46 ∷ []  -- IM 0
canonical (Instr.Im InterruptMode.One) = 0xED ∷ 0x56 ∷ []  -- IM 1
canonical (Instr.Im InterruptMode.Two) = 0xED ∷ 0x5E ∷ []  -- IM 2
-- 16-bit arithmetic group
canonical (Instr.AddHl ss) = (0x09 + 16 * pair_code ss) ∷ []  -- ADD HL,ss
canonical (Instr.AdcHl ss) = 0xED ∷ (0x4A + 16 * pair_code ss) ∷ []  -- ADC HL,ss
canonical (Instr.SbcHl ss) = 0xED ∷ (0x42 + 16 * pair_code ss) ∷ []  -- SBC HL,ss
canonical (Instr.AddIndex x pp) = prefix x ∷ (0x09 + 16 * addend_code pp) ∷ []  -- ADD IX,pp
canonical (Instr.IncWord (WordRegister.Pair ss)) = (0x03 + 16 * pair_code ss) ∷ []  -- INC ss
canonical (Instr.IncWord (WordRegister.Index x)) = prefix x ∷ 0x23 ∷ []  -- INC IX
canonical (Instr.DecWord (WordRegister.Pair ss)) = (0x0B + 16 * pair_code ss) ∷ []  -- DEC ss
canonical (Instr.DecWord (WordRegister.Index x)) = prefix x ∷ 0x2B ∷ []  -- DEC IX
-- Rotate and shift group
canonical Instr.Rlca = 0x07 ∷ []  -- RLCA
canonical Instr.Rla = 0x17 ∷ []  -- RLA
canonical Instr.Rrca = 0x0F ∷ []  -- RRCA
canonical Instr.Rra = 0x1F ∷ []  -- RRA
canonical (Instr.Rotate rotation (Operand.Register r)) = 0xCB ∷ (8 * rotation_code rotation + register_code r) ∷ []  -- RLC r .. SRL r
canonical (Instr.Rotate rotation (Operand.Memory Memory.Hl)) = 0xCB ∷ (0x06 + 8 * rotation_code rotation) ∷ []  -- RLC (HL) .. SRL (HL)
canonical (Instr.Rotate rotation (Operand.Memory (Memory.Indexed x d))) = prefix x ∷ 0xCB ∷ signed_byte d ∷ (0x06 + 8 * rotation_code rotation) ∷ []  -- RLC (IX+d) .. SRL (IX+d)
canonical Instr.Rld = 0xED ∷ 0x6F ∷ []  -- RLD
canonical Instr.Rrd = 0xED ∷ 0x67 ∷ []  -- RRD
-- Bit set, reset, and test group
canonical (Instr.Bit b (Operand.Register r)) = 0xCB ∷ (0x40 + 8 * octal_code b + register_code r) ∷ []  -- BIT b,r
canonical (Instr.Bit b (Operand.Memory Memory.Hl)) = 0xCB ∷ (0x46 + 8 * octal_code b) ∷ []  -- BIT b,(HL)
canonical (Instr.Bit b (Operand.Memory (Memory.Indexed x d))) = prefix x ∷ 0xCB ∷ signed_byte d ∷ (0x46 + 8 * octal_code b) ∷ []  -- BIT b,(IX+d)
canonical (Instr.Set b (Operand.Register r)) = 0xCB ∷ (0xC0 + 8 * octal_code b + register_code r) ∷ []  -- SET b,r
canonical (Instr.Set b (Operand.Memory Memory.Hl)) = 0xCB ∷ (0xC6 + 8 * octal_code b) ∷ []  -- SET b,(HL)
canonical (Instr.Set b (Operand.Memory (Memory.Indexed x d))) = prefix x ∷ 0xCB ∷ signed_byte d ∷ (0xC6 + 8 * octal_code b) ∷ []  -- SET b,(IX+d)
canonical (Instr.Res b (Operand.Register r)) = 0xCB ∷ (0x80 + 8 * octal_code b + register_code r) ∷ []  -- RES b,r
canonical (Instr.Res b (Operand.Memory Memory.Hl)) = 0xCB ∷ (0x86 + 8 * octal_code b) ∷ []  -- RES b,(HL)
canonical (Instr.Res b (Operand.Memory (Memory.Indexed x d))) = prefix x ∷ 0xCB ∷ signed_byte d ∷ (0x86 + 8 * octal_code b) ∷ []  -- RES b,(IX+d)
-- Jump group
canonical (Instr.Jump nn) = 0xC3 ∷ word nn  -- JP nn
canonical (Instr.JumpIf cc nn) = (0xC2 + 8 * condition_code cc) ∷ word nn  -- JP cc,nn
canonical (Instr.JumpRelative e) = 0x18 ∷ signed_byte e ∷ []  -- JR e
canonical (Instr.JumpRelativeIf cc e) = (0x20 + 8 * short_condition_code cc) ∷ signed_byte e ∷ []  -- JR C,e; JR NC,e; JR Z,e; JR NZ,e
canonical (Instr.JumpIndirect HlOrIndex.Hl) = 0xE9 ∷ []  -- JP (HL)
canonical (Instr.JumpIndirect (HlOrIndex.Index x)) = prefix x ∷ 0xE9 ∷ []  -- JP (IX)
canonical (Instr.Djnz e) = 0x10 ∷ signed_byte e ∷ []  -- DJNZ e
-- Call and return group
canonical (Instr.Call nn) = 0xCD ∷ word nn  -- CALL nn
canonical (Instr.CallIf cc nn) = (0xC4 + 8 * condition_code cc) ∷ word nn  -- CALL cc,nn
canonical Instr.Ret = 0xC9 ∷ []  -- RET
canonical (Instr.RetIf cc) = (0xC0 + 8 * condition_code cc) ∷ []  -- RET cc
canonical Instr.Reti = 0xED ∷ 0x4D ∷ []  -- RETI
canonical Instr.Retn = 0xED ∷ 0x45 ∷ []  -- RETN
canonical (Instr.Restart t) = (0xC7 + 8 * octal_code t) ∷ []  -- RST p
-- Input and output group
canonical (Instr.InA n) = 0xDB ∷ n ∷ []  -- IN A,(n)
canonical (Instr.InC r) = 0xED ∷ (0x40 + 8 * register_code r) ∷ []  -- IN r,(C)
canonical (Instr.OutA n) = 0xD3 ∷ n ∷ []  -- OUT (n),A
canonical (Instr.OutC r) = 0xED ∷ (0x41 + 8 * register_code r) ∷ []  -- OUT (C),r

-- The rows LD dd,(nn) and LD (nn),dd also hold for HL, so these two instructions have a second encoding.
abbrev pub other : Instr → Option (List ℕ)
other (Instr.LoadWordFrom (WordRegister.Pair RegisterPair.Hl) nn) = Some (0xED ∷ 0x6B ∷ word nn)
other (Instr.StoreWord (WordRegister.Pair RegisterPair.Hl) nn) = Some (0xED ∷ 0x63 ∷ word nn)
other _ = None
