-- What is printed of an instruction.
use Rattle.std.specs.Prelude.{◌*◌, ◌==◌, ℕ, zero, suc, List, [], ◌∷◌, ◌++◌, Option, Some, None, Result, Ok, Err, codes, decimal, if◌then◌else◌}
use Rattle.cpm_run.specs.Turns.{bdos, bios, bios_entry, is_finished}
use Rattle.z80_cpu.specs.State.{Machine, byte_at, displaced, up_by}
use Rattle.z80_instr.specs.Table.{octal_code}
use Rattle.z80_instr.specs.declared.Instr.{Instr}
use Rattle.z80_table.specs.Reading.{read}
use Rattle.z80_table.specs.declared.DecodeFault.{DecodeFault}
use Rattle.state_text.specs.Labelled.{Known, offset_text, target_label}
use Rattle.debugger.specs.Addresses.{address_with_label}
use Rattle.state_text.specs.Printing.Instructions.{byte_number, instr_text}

-- the instruction at an address, with the number of its bytes; after FFFFH comes address 0
abbrev pub decoded_at : List ℕ → ℕ → Result (Instr × ℕ) DecodeFault
decoded_at memory address = read (byte_at address memory ∷ byte_at (up_by 1 address) memory ∷ byte_at (up_by 2 address) memory ∷ byte_at (up_by 3 address) memory ∷ [])

-- the number of bytes of an instruction; 1 if no documented one was read
abbrev pub instruction_size : Result (Instr × ℕ) DecodeFault → ℕ
instruction_size (Ok found) = found.1
instruction_size (Err why) = 1

-- the number of the entry of the BIOS at an address, from 0, the cold start, to 16
abbrev pub bios_entry_at : ℕ → Option ℕ
bios_entry_at address = if is_finished address then Some (if address == bios then 0 else 1) else bios_entry address

-- the target of a relative jump after its text, which has only the distance
abbrev pub relative_note : Known → ℕ → List ℕ
relative_note known target = codes " ; " ++ address_with_label known target

-- the label of another target after the text, which has the address
abbrev pub label_note : Option (List ℕ × ℕ) → List ℕ
label_note None = []
label_note (Some label) = codes " ; " ++ label.0 ++ offset_text label.1

-- what is printed after the text of a jump, a call or RST, given the address of the next instruction: where it goes
abbrev pub target_note : Known → ℕ → Instr → List ℕ
target_note known next (Instr.JumpRelative e) = relative_note known (displaced next e)
target_note known next (Instr.JumpRelativeIf condition e) = relative_note known (displaced next e)
target_note known next (Instr.Djnz e) = relative_note known (displaced next e)
target_note known next (Instr.Jump nn) = label_note (target_label known nn)
target_note known next (Instr.JumpIf condition nn) = label_note (target_label known nn)
target_note known next (Instr.Call nn) = label_note (target_label known nn)
target_note known next (Instr.CallIf condition nn) = label_note (target_label known nn)
target_note known next (Instr.Restart t) = label_note (target_label known (8 * octal_code t))
target_note known next other = []

-- an instruction that was read at an address, and where it goes; or the byte there, if none was read
abbrev pub decoded_text : Known → ℕ → ℕ → Result (Instr × ℕ) DecodeFault → List ℕ
decoded_text known address byte (Ok found) = instr_text found.0 ++ target_note known (up_by found.1 address) found.0
decoded_text known address byte (Err why) = codes "DB " ++ byte_number byte

-- the same, unless an entry of the BIOS is at the address
abbrev pub entry_or_decoded : Option ℕ → Known → Machine → ℕ → List ℕ
entry_or_decoded (Some entry) known machine address = codes "BIOS " ++ decimal entry
entry_or_decoded None known machine address = decoded_text known address (byte_at address machine.memory) (decoded_at machine.memory address)

-- What is printed of an address: the system call there, with the number of its function or entry; or the instruction, and where it goes.
abbrev pub instruction_at : Known → Machine → ℕ → List ℕ
instruction_at known machine address = if address == bdos then codes "BDOS " ++ decimal machine.cpu.main.c else entry_or_decoded (bios_entry_at address) known machine address

-- the line of an address: with its label, and what is there
abbrev pub instruction_line : Known → Machine → ℕ → List ℕ
instruction_line known machine address = address_with_label known address ++ codes ": " ++ instruction_at known machine address ++ codes "\n"

-- the lines of this many instructions from an address on; after FFFFH comes address 0
abbrev pub code_text : Known → Machine → ℕ → ℕ → List ℕ
code_text known machine address zero = []
code_text known machine address (suc count) =
    instruction_line known machine address ++ code_text known machine (up_by (instruction_size (decoded_at machine.memory address)) address) count
