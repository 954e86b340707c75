-- The lines of a trace.
use Rattle.std.specs.Prelude.{◌≡◌, ◌==◌, ℕ, List, [], ◌∷◌, ◌++◌, Result, Ok, Err, codes, decimal, if◌then◌else◌, take}
use Rattle.hex.specs.Hex.{encode_upper}
use Rattle.z80_cpu.specs.State.{af, bc, de, hl}
use Rattle.z80_cpu.specs.declared.registers.Cpu.{Cpu}
use Rattle.z80_table.specs.Reading.{read}
use Rattle.z80_table.specs.Types.{Instr}
use Rattle.z80_table.specs.declared.DecodeFault.{DecodeFault}
use Rattle.cpm_run.specs.Turns.{Call, Entry, Place, Program, place_at_pc}
use Rattle.cpm_run.specs.declared.recording.TraceStep.{TraceStep}
use Rattle.z80dev_run.specs.Labelled.{Known, nearest_label, nearest_text}
use Rattle.state_text.specs.Printing.Columns.{blanks, column, on_right, word_text}
use Rattle.state_text.specs.Printing.Instructions.{instr_text}

-- how many bytes the instruction at the front of these has; all are shown if there is none
abbrev pub decoded_size : Result (Instr × ℕ) DecodeFault → ℕ
decoded_size (Ok found) = found.1
decoded_size (Err why) = 4

-- how many bytes of a step are shown: none if it is a call of the system
abbrev pub shown_size : Place → List ℕ → ℕ
shown_size Call bytes = 0
shown_size (Entry n) bytes = 0
shown_size Program bytes = decoded_size (read bytes)

-- the text of an instruction, or `?` if there is none
abbrev pub ShowsInstr : Result (Instr × ℕ) DecodeFault → List ℕ → Type 0
ShowsInstr (Ok found) text = text ≡ instr_text found.0
ShowsInstr (Err why) text = text ≡ codes "?"

-- what a step does: a call of the system with its number, or an instruction, or `?` if there is none
abbrev pub ShowsAt : Place → TraceStep → List ℕ → Type 0
ShowsAt Call step text = text ≡ codes "BDOS " ++ decimal step.before.main.c
ShowsAt (Entry n) step text = text ≡ codes "BIOS " ++ decimal n
ShowsAt Program step text = ShowsInstr (read step.bytes) text

-- a register that a step has changed, as in ` BC=0009`
abbrev pub change_text : List ℕ → ℕ → ℕ → List ℕ
change_text name before after = if before == after then [] else blanks 1 ++ name ++ codes "=" ++ word_text after

abbrev pub main_changes : Cpu → Cpu → List ℕ
main_changes old new =
    change_text (codes "AF") (af old.main) (af new.main) ++ change_text (codes "BC") (bc old.main) (bc new.main)
    ++ change_text (codes "DE") (de old.main) (de new.main) ++ change_text (codes "HL") (hl old.main) (hl new.main)

abbrev pub index_changes : Cpu → Cpu → List ℕ
index_changes old new = change_text (codes "IX") old.ix new.ix ++ change_text (codes "IY") old.iy new.iy ++ change_text (codes "SP") old.sp new.sp

abbrev pub shadow_changes : Cpu → Cpu → List ℕ
shadow_changes old new =
    change_text (codes "AF'") (af old.shadow) (af new.shadow) ++ change_text (codes "BC'") (bc old.shadow) (bc new.shadow)
    ++ change_text (codes "DE'") (de old.shadow) (de new.shadow) ++ change_text (codes "HL'") (hl old.shadow) (hl new.shadow)

abbrev pub other_changes : Cpu → Cpu → List ℕ
other_changes old new = change_text (codes "I") old.i new.i ++ change_text (codes "R") old.r new.r

-- the registers that a step has changed; PC is not one of them
abbrev pub changes : Cpu → Cpu → List ℕ
changes old new = main_changes old new ++ index_changes old new ++ shadow_changes old new ++ other_changes old new

-- the place of a step: its number, its address, the label of the address, and its bytes
abbrev pub place_text : Known → TraceStep → List ℕ
place_text known step =
    on_right 8 (decimal step.number) ++ blanks 1 ++ column 4 (word_text step.before.pc) ++ column 12 (nearest_text (nearest_label known step.before.pc))
    ++ column 8 (encode_upper (take (shown_size (place_at_pc step.before.pc) step.bytes) step.bytes))

-- what a step does, and the registers that it has changed, if any, in a column of their own
abbrev pub done_text : List ℕ → List ℕ → List ℕ
done_text text [] = text
done_text text (byte ∷ bytes) = column 16 text ++ byte ∷ bytes

-- The line of a step: its place, what it does, and the registers that it has changed.
abbrev pub IsTraceLine : Known → TraceStep → List ℕ → Type 0
IsTraceLine known step line =
    (text : List ℕ) × ShowsAt (place_at_pc step.before.pc) step text × (line ≡ place_text known step ++ done_text text (changes step.before step.after) ++ codes "\n")

-- The lines of these steps, one after the other.
pub data IsTrace (known : Known) : List TraceStep → List ℕ → Type 0 where
  none : IsTrace known [] []
  more : (steps : List TraceStep) (text : List ℕ) (step : TraceStep) (line : List ℕ) → IsTrace known steps text → IsTraceLine known step line → IsTrace known (steps ++ step ∷ []) (text ++ line)
