-- A step as the opcode table of this crate makes it, which reads the bytes at PC by itself.
--
-- `Turn` defines what `step` answers. It is proved that a step by this table is one by that definition.
use Rattle.std.specs.Prelude.{◌≡◌, ◌<◌, ℕ, List, ◌∷◌, [], Result, Ok, Err, Option, Some, None}
use Rattle.std.specs.List.{AllByRecursion}
use Rattle.z80_table.specs.Reading.{Entry, read, read_page, read_index}
use Rattle.z80_table.specs.declared.DecodeFault.{DecodeFault}
use Rattle.z80_machine.specs.Types.{IndexRegister, Instr, Step}
use Rattle.z80_machine.specs.declared.opcodes.Row.{Row}
use Rattle.z80_cpu.specs.State.{Machine, byte_at, up_by}
use Rattle.z80_turns.specs.Turning.{IsTurnOf}

-- each number is below 256
abbrev pub AreBytes : List ℕ → Type 0
AreBytes = AllByRecursion (λ b. b < 256)

-- the instruction that begins with this opcode, at PC, and continues with the three bytes after PC
abbrev pub read_from : ℕ → Machine → Result (Instr × ℕ) DecodeFault
read_from opcode m =
    let pc = m.cpu.pc in
    read (opcode ∷ byte_at (up_by 1 pc) m.memory ∷ byte_at (up_by 2 pc) m.memory ∷ byte_at (up_by 3 pc) m.memory ∷ [])

-- the instruction after a prefix at PC: it begins with this second byte and continues with the two bytes after that
abbrev pub read_second : (ℕ → Entry) → ℕ → Machine → Result (Instr × ℕ) DecodeFault
read_second page second m = let pc = m.cpu.pc in read_page page (second ∷ byte_at (up_by 2 pc) m.memory ∷ byte_at (up_by 3 pc) m.memory ∷ [])

-- the same after DD and FD, where the second byte may be CB
abbrev pub read_index_second : IndexRegister → ℕ → Machine → Result (Instr × ℕ) DecodeFault
read_index_second index second m = let pc = m.cpu.pc in read_index index (second ∷ byte_at (up_by 2 pc) m.memory ∷ byte_at (up_by 3 pc) m.memory ∷ [])

abbrev pub IsTurnBy : Result (Instr × ℕ) DecodeFault → Step → Machine → Machine → Type 0
IsTurnBy (Ok x) step old new = IsTurnOf x.0 x.1 step old new
IsTurnBy (Err _) step old new = (step ≡ Step.Undocumented) × (new ≡ old)

-- a step by this reading, or no step, and then nothing has changed
abbrev pub IsTurnOrNone : Result (Instr × ℕ) DecodeFault → Option Step → Machine → Machine → Type 0
IsTurnOrNone read (Some step) old new = IsTurnBy read step old new
IsTurnOrNone read None old new = new ≡ old

-- a step by this reading, or the opcode is a prefix, and then nothing has changed
abbrev pub IsRow : ℕ → Row → Machine → Machine → Type 0
IsRow opcode (Row.Turned step) old new = IsTurnBy (read_from opcode old) step old new
IsRow opcode Row.Bits old new = (opcode ≡ 0xCB) × (new ≡ old)
IsRow opcode Row.Extended old new = (opcode ≡ 0xED) × (new ≡ old)
IsRow opcode Row.Ix old new = (opcode ≡ 0xDD) × (new ≡ old)
IsRow opcode Row.Iy old new = (opcode ≡ 0xFD) × (new ≡ old)
