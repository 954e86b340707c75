-- The words of the language that name operations, and those that are operands by themselves, in upper case.
--
-- Z80 CPU User Manual (Zilog UM0080), "Z80 Instruction Description".
-- In words: docs/LANGUAGE.md, section 'Names, numbers, strings'.
use Rattle.std.specs.Prelude.{ℕ, List, map, codes}
use Rattle.std.specs.Char.{to_ascii_uppercase}
use Rattle.z80_instr.specs.declared.AluOperation.{AluOperation}
use Rattle.z80_instr.specs.declared.Rotation.{Rotation}
use Rattle.z80_instr.specs.declared.BlockOperation.{BlockOperation}
use Rattle.z80_instr.specs.declared.BlockStep.{BlockStep}
use Rattle.z80_form.specs.Types.{Mnemonic, Name}

-- a word with its letters in upper case; other bytes stay as they are
abbrev pub upper_letters : List ℕ → List ℕ
upper_letters word = map to_ascii_uppercase word

abbrev pub block_word : BlockOperation → BlockStep → List ℕ
block_word BlockOperation.Load BlockStep.Decrement = codes "LDD"
block_word BlockOperation.Load BlockStep.Increment = codes "LDI"
block_word BlockOperation.Load BlockStep.DecrementRepeat = codes "LDDR"
block_word BlockOperation.Load BlockStep.IncrementRepeat = codes "LDIR"
block_word BlockOperation.Compare BlockStep.Decrement = codes "CPD"
block_word BlockOperation.Compare BlockStep.Increment = codes "CPI"
block_word BlockOperation.Compare BlockStep.DecrementRepeat = codes "CPDR"
block_word BlockOperation.Compare BlockStep.IncrementRepeat = codes "CPIR"
block_word BlockOperation.Input BlockStep.Decrement = codes "IND"
block_word BlockOperation.Input BlockStep.Increment = codes "INI"
block_word BlockOperation.Input BlockStep.DecrementRepeat = codes "INDR"
block_word BlockOperation.Input BlockStep.IncrementRepeat = codes "INIR"
block_word BlockOperation.Output BlockStep.Decrement = codes "OUTD"
block_word BlockOperation.Output BlockStep.Increment = codes "OUTI"
block_word BlockOperation.Output BlockStep.DecrementRepeat = codes "OTDR"
block_word BlockOperation.Output BlockStep.IncrementRepeat = codes "OTIR"

abbrev pub operation_word : AluOperation → List ℕ
operation_word AluOperation.Add = codes "ADD"
operation_word AluOperation.Adc = codes "ADC"
operation_word AluOperation.Sub = codes "SUB"
operation_word AluOperation.Sbc = codes "SBC"
operation_word AluOperation.And = codes "AND"
operation_word AluOperation.Xor = codes "XOR"
operation_word AluOperation.Or = codes "OR"
operation_word AluOperation.Cp = codes "CP"

abbrev pub rotation_word : Rotation → List ℕ
rotation_word Rotation.Rlc = codes "RLC"
rotation_word Rotation.Rrc = codes "RRC"
rotation_word Rotation.Rl = codes "RL"
rotation_word Rotation.Rr = codes "RR"
rotation_word Rotation.Sla = codes "SLA"
rotation_word Rotation.Sra = codes "SRA"
rotation_word Rotation.Srl = codes "SRL"

-- the word of a mnemonic
abbrev pub mnemonic_word : Mnemonic → List ℕ
mnemonic_word Mnemonic.Ld = codes "LD"
mnemonic_word Mnemonic.Push = codes "PUSH"
mnemonic_word Mnemonic.Pop = codes "POP"
mnemonic_word Mnemonic.Ex = codes "EX"
mnemonic_word Mnemonic.Exx = codes "EXX"
mnemonic_word (Mnemonic.Block operation step) = block_word operation step
mnemonic_word (Mnemonic.Alu operation) = operation_word operation
mnemonic_word Mnemonic.Inc = codes "INC"
mnemonic_word Mnemonic.Dec = codes "DEC"
mnemonic_word Mnemonic.Daa = codes "DAA"
mnemonic_word Mnemonic.Cpl = codes "CPL"
mnemonic_word Mnemonic.Neg = codes "NEG"
mnemonic_word Mnemonic.Ccf = codes "CCF"
mnemonic_word Mnemonic.Scf = codes "SCF"
mnemonic_word Mnemonic.Nop = codes "NOP"
mnemonic_word Mnemonic.Halt = codes "HALT"
mnemonic_word Mnemonic.Di = codes "DI"
mnemonic_word Mnemonic.Ei = codes "EI"
mnemonic_word Mnemonic.Im = codes "IM"
mnemonic_word Mnemonic.Rlca = codes "RLCA"
mnemonic_word Mnemonic.Rla = codes "RLA"
mnemonic_word Mnemonic.Rrca = codes "RRCA"
mnemonic_word Mnemonic.Rra = codes "RRA"
mnemonic_word (Mnemonic.Rotate rotation) = rotation_word rotation
mnemonic_word Mnemonic.Rld = codes "RLD"
mnemonic_word Mnemonic.Rrd = codes "RRD"
mnemonic_word Mnemonic.Bit = codes "BIT"
mnemonic_word Mnemonic.Set = codes "SET"
mnemonic_word Mnemonic.Res = codes "RES"
mnemonic_word Mnemonic.Jp = codes "JP"
mnemonic_word Mnemonic.Jr = codes "JR"
mnemonic_word Mnemonic.Djnz = codes "DJNZ"
mnemonic_word Mnemonic.Call = codes "CALL"
mnemonic_word Mnemonic.Ret = codes "RET"
mnemonic_word Mnemonic.Reti = codes "RETI"
mnemonic_word Mnemonic.Retn = codes "RETN"
mnemonic_word Mnemonic.Rst = codes "RST"
mnemonic_word Mnemonic.In = codes "IN"
mnemonic_word Mnemonic.Out = codes "OUT"

-- the word of a register or a condition
abbrev pub operand_word : Name → List ℕ
operand_word Name.A = codes "A"
operand_word Name.B = codes "B"
operand_word Name.C = codes "C"
operand_word Name.D = codes "D"
operand_word Name.E = codes "E"
operand_word Name.H = codes "H"
operand_word Name.L = codes "L"
operand_word Name.I = codes "I"
operand_word Name.R = codes "R"
operand_word Name.Af = codes "AF"
operand_word Name.OtherAf = codes "AF'"
operand_word Name.Bc = codes "BC"
operand_word Name.De = codes "DE"
operand_word Name.Hl = codes "HL"
operand_word Name.Ix = codes "IX"
operand_word Name.Iy = codes "IY"
operand_word Name.Sp = codes "SP"
operand_word Name.Nz = codes "NZ"
operand_word Name.Z = codes "Z"
operand_word Name.Nc = codes "NC"
operand_word Name.Po = codes "PO"
operand_word Name.Pe = codes "PE"
operand_word Name.P = codes "P"
operand_word Name.M = codes "M"
