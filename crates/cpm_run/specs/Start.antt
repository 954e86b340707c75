-- The state in which a program begins under CP/M 2.2.
use Rattle.std.specs.Prelude.{◌≡◌, ◌*◌, ◌≤◌, ◌<◌, ℕ, List, [], ◌∷◌, Result, Ok, Err, length, replicate, slice_index_or}
use Rattle.std.specs.List.{flat_map, range_with_len}
use Rattle.common.specs.declared.limits.TheConstants.{LONGEST_PROGRAM}
use Rattle.z80_cpu.specs.declared.registers.Cpu.{Cpu}
use Rattle.z80_cpu.specs.Cleared.{cleared}
use Rattle.cpm_disk.specs.Control.Bytes.{with_bytes}
use Rattle.cpm_disk.specs.declared.words.TheConstants.{LONGEST_TAIL}
use Rattle.cpm_run.specs.declared.fault.StartFault.{StartFault}
use Rattle.cpm_run.specs.declared.fault.StartFault.TheVariants as fault
use Rattle.cpm_disk.specs.Control.Words.{control, tail_of, upper_word}

-- JP to an address, given by its two bytes
abbrev pub jump_bytes : ℕ → ℕ → List ℕ
jump_bytes low high = 0xC3 ∷ low ∷ high ∷ []

-- the entries of the BIOS from FF00H on: seventeen jumps, each to itself
abbrev pub bios_entries : List ℕ
bios_entries = flat_map (λ n. jump_bytes (3 * n) 0xFF) (range_with_len 0 17)

-- word k of a command in upper case, or no bytes if it has fewer words
abbrev pub command_word : List (List ℕ) → ℕ → List ℕ
command_word words k = upper_word (slice_index_or words k [])

-- What is in memory at the start, by address: the jumps to the BIOS and to the BDOS, two file control blocks, the command tail with its
-- length, the program, and the entries of the BIOS. All other bytes are 0.
abbrev pub memory_at_start : List ℕ → List (List ℕ) → List (ℕ × List ℕ)
memory_at_start file words =
    (0x0000, jump_bytes 0x03 0xFF)
    ∷ (0x0005, jump_bytes 0x06 0xFE)
    ∷ (0x005C, control (command_word words 0))
    ∷ (0x006C, control (command_word words 1))
    ∷ (0x0080, length (tail_of words) ∷ [])
    ∷ (0x0081, tail_of words)
    ∷ (0x0100, file)
    ∷ (0xFF00, bios_entries)
    ∷ []

abbrev pub with_parts : List (ℕ × List ℕ) → List ℕ → List ℕ
with_parts [] memory = memory
with_parts (part ∷ rest) memory = with_parts rest (with_bytes part.0 part.1 memory)

abbrev pub start_memory : List ℕ → List (List ℕ) → List ℕ
start_memory file words = with_parts (memory_at_start file words) (replicate 65536 0)

-- SP points to a word 0, so a RET goes to 0000H. All other registers but PC are 0.
abbrev pub start_cpu : Cpu
start_cpu = record cleared { sp = 0xFDFE; pc = 0x0100 }

-- What `start` answers: the state at the start; or why there is none. That the program is too long is tested first, even if memory is
-- short.
abbrev pub IsStart : List ℕ → List (List ℕ) → Result (Cpu × List ℕ) StartFault → Type 0
IsStart file words (Ok (cpu, memory)) = (length file ≤ LONGEST_PROGRAM) × (length (tail_of words) ≤ LONGEST_TAIL) × (cpu ≡ start_cpu) × (memory ≡ start_memory file words)
IsStart file words (Err fault.ComTooLong) = LONGEST_PROGRAM < length file
IsStart file words (Err fault.TailTooLong) = (length file ≤ LONGEST_PROGRAM) × (LONGEST_TAIL < length (tail_of words))
IsStart file words (Err fault.NoMemory) = length file ≤ LONGEST_PROGRAM
