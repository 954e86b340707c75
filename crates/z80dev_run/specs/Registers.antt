-- What is printed of the machine at the end of a run.
use Rattle.std.specs.Prelude.{ℕ, ◌-◌, ◌%◌, ◌==◌, ◌&&◌, Bool, true, false, not, nat_le, nat_lt, List, [], ◌++◌, Option, Some, None, codes, drop, if◌then◌else◌, length, map, slice_get, take}
use Rattle.z80_cpu.specs.State.{de, up_by, word_at}
use Rattle.z80_cpu.specs.declared.registers.Cpu.{Cpu}
use Rattle.cpm_disk.specs.Control.Fcbs.{fcb_at, name_of}
use Rattle.cpm_bdos.specs.Functions.{function_of}
use Rattle.cpm_bdos.specs.declared.function.Function.{Function}
use Rattle.cpm_bdos.specs.declared.function.Function.TheVariants as function
use Rattle.cpm_bdos.specs.declared.function.SearchCall.TheVariants as searching
use Rattle.cpm_run.specs.Turns.{Call, Entry, Place, Program, is_finished, place_at_pc}
use Rattle.cpm_run.specs.declared.recording.TraceStep.{TraceStep}
use Rattle.cpm_run.specs.declared.tracing.Left.{Left}
use Rattle.z80dev_run.specs.declared.registers.WayOut.{WayOut}
use Rattle.z80dev_run.specs.declared.registers.WayOut.TheVariants as way
use Rattle.z80dev_run.specs.Labelled.{Known, is_in_program, nearest_label, nearest_text}
use Rattle.state_text.specs.Printing.Columns.{blanks, word_text}
use Rattle.state_text.specs.Printing.Registers.{registers_text}

-- a word in memory, and four of them
abbrev pub word_there : List ℕ → ℕ → List ℕ
word_there memory address = blanks 1 ++ word_text (word_at address memory)

abbrev pub four_words : List ℕ → ℕ → List ℕ
four_words memory address = word_there memory address ++ word_there memory (up_by 2 address) ++ word_there memory (up_by 4 address) ++ word_there memory (up_by 6 address)

-- the line of the eight words from SP on
abbrev pub stack_line : Cpu → List ℕ → List ℕ
stack_line cpu memory = codes "stack at " ++ word_text cpu.sp ++ codes ":" ++ four_words memory cpu.sp ++ four_words memory (up_by 8 cpu.sp) ++ codes "\n"

-- where a call of the system returns to, with the label there
abbrev pub return_text : Known → ℕ → List ℕ
return_text known address = codes "returns to " ++ word_text address ++ blanks 1 ++ nearest_text (nearest_label known address) ++ codes "\n"

-- the line for a call of the system
abbrev pub return_line : Place → Known → ℕ → List ℕ
return_line Program known address = []
return_line Call known address = return_text known address
return_line (Entry n) known address = return_text known address

-- whether DE is the address of a file control block in a call of this function
abbrev pub takes_fcb : Option Function → Bool
takes_fcb (Some (function.File call)) = true
takes_fcb (Some (function.Record call)) = true
takes_fcb (Some (function.Search searching.First)) = true
takes_fcb other = false

-- a byte of a name without its attribute, or `?` if it cannot be printed
abbrev pub name_byte : ℕ → ℕ
name_byte byte = if nat_le 0x20 (byte % 128) && nat_lt (byte % 128) 0x7F then byte % 128 else 0x3F

-- the name in a file control block
abbrev pub name_text : List ℕ → List ℕ
name_text name = map name_byte (take 8 name) ++ codes "." ++ map name_byte (drop 8 name)

-- the line for a call of the BDOS that has a file control block
abbrev pub fcb_line : Cpu → List ℕ → List ℕ
fcb_line cpu memory =
    if (cpu.pc == 0xFE06) && takes_fcb (function_of cpu.main.c) then codes "FCB at " ++ word_text (de cpu.main) ++ codes ": " ++ name_text (name_of (fcb_at (de cpu.main) memory)) ++ codes "\n" else []

-- the step at this distance from the last
abbrev pub step_from_end : ℕ → List TraceStep → Option TraceStep
step_from_end k steps = if nat_lt k (length steps) then slice_get steps (length steps - k - 1) else None

-- From where the system was entered: the address of this step, or of the one before it if this one is the jump that CP/M has at `entry`.
abbrev pub came_from : ℕ → Option TraceStep → Option TraceStep → Option ℕ
came_from entry None before = None
came_from entry (Some step) None = if step.before.pc == entry then None else Some step.before.pc
came_from entry (Some step) (Some before) = Some (if step.before.pc == entry then before.before.pc else step.before.pc)

-- whether a step is system call 0, which ends a program
abbrev pub is_reset : Option TraceStep → Bool
is_reset None = false
is_reset (Some step) = (step.before.pc == 0xFE06) && (step.before.main.c == 0)

-- the same way out, with the address that it was taken from, if that is known
abbrev pub way_from : WayOut → Option ℕ → Option (WayOut × ℕ)
way_from way None = None
way_from way (Some address) = Some (way, address)

-- How a program came to its end, and from which address: by a jump to the cold or the warm start, which may lead over the jump at 0000H; or by
-- system call 0, which may be made over the jump at 0005H.
abbrev pub way_out : Cpu → List TraceStep → Option (WayOut × ℕ)
way_out cpu steps =
    if is_finished cpu.pc then way_from way.Jump (came_from 0x0000 (step_from_end 0 steps) (step_from_end 1 steps))
    else if is_reset (step_from_end 0 steps) then way_from way.SystemCall (came_from 0x0005 (step_from_end 1 steps) (step_from_end 2 steps)) else None

-- whether there is such an address, and none of the program's bytes is there
abbrev pub is_outside : Known → Option (WayOut × ℕ) → Bool
is_outside known None = false
is_outside known (Some (way, address)) = not (is_in_program known.size address)

-- The program is lost: it came to its end from outside of its bytes.
abbrev pub is_lost : Known → Cpu → List TraceStep → Bool
is_lost known cpu steps = is_outside known (way_out cpu steps)

abbrev pub way_text : WayOut → List ℕ
way_text way.Jump = codes "a jump"
way_text way.SystemCall = codes "system call 0"

abbrev pub outside_text : Known → Option (WayOut × ℕ) → List ℕ
outside_text known None = []
outside_text known (Some (way, address)) =
    if is_in_program known.size address then [] else codes "ended by " ++ way_text way ++ codes " from " ++ word_text address ++ codes ", outside the program\n"

-- The machine and the system at the end of a run whose last steps are known.
abbrev pub machine_text : Known → Left → List TraceStep → List ℕ
machine_text known left steps =
    registers_text left.cpu left.dma left.user ++ stack_line left.cpu left.memory ++ return_line (place_at_pc left.cpu.pc) known (word_at left.cpu.sp left.memory)
    ++ fcb_line left.cpu left.memory ++ outside_text known (way_out left.cpu steps)
