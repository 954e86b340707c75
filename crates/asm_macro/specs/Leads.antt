-- Bounds for the lines that expansion gives and reads: what a part gives at once, what may be read after it, and why it stops.
use Rattle.std.specs.Prelude.{◌≡◌, ◌≤◌, ◌⊎◌, ℕ, suc, List, [], ◌∷◌, Some, Err, length}
use Rattle.asm_text.specs.Lines.{Numbered, form_of}
use Rattle.asm_macro.specs.declared.fault.MacroFault.{MacroFault}
use Rattle.asm_macro.specs.State.{State, room, constant_table}
use Rattle.asm_macro.specs.Values.{value_of_tokens}
use Rattle.asm_macro.specs.Judged.{line_fault}
use Rattle.asm_macro.specs.Parts.{ExpansionPart, Stop, Last, Go, Within}
use Rattle.asm_macro.specs.Expands.{End, Whole, Ended, Stopped}

-- how many lines and repetitions may be read after an expansion that ended so
abbrev pub room_behind : End → ℕ
room_behind (Whole e) = room e
room_behind Ended = 0
room_behind (Stopped number why) = 0

-- the lines that a part gives at once
abbrev pub given : ExpansionPart → List Numbered
given (Stop lines number why) = lines
given (Last l) = l ∷ []
given (Go lines e rest) = lines
given (Within lines e inner text next) = lines

-- How many lines and repetitions a part uses up, together with those that may be read after it. A part that stops without a line uses up
-- none.
abbrev pub most : ExpansionPart → ℕ
most (Stop [] number why) = 0
most (Stop (l ∷ lines) number why) = 1
most (Last l) = 1
most (Go lines e rest) = suc (room e)
most (Within lines e inner text next) = suc (room e)

-- if the part stops, Why holds of its error
abbrev pub StopsFor : (MacroFault → Type 0) → ExpansionPart → Type 0
StopsFor Why (Stop lines number why) = Why why
StopsFor Why (Last l) = Unit {0}
StopsFor Why (Go lines e rest) = Unit {0}
StopsFor Why (Within lines e inner text next) = Unit {0}

-- A part gives at most `lines` lines at once, `most` of it is at most n, and if it stops, Why holds of its error.
abbrev pub Leads : (MacroFault → Type 0) → ℕ → ℕ → ExpansionPart → Type 0
Leads Why lines n p = (length (given p) ≤ lines) × (most p ≤ n) × StopsFor Why p

-- the errors of blocks, calls and repetitions
pub data IsOfBlocks : MacroFault → Type 0 where
  stray : IsOfBlocks MacroFault.Stray
  unclosed : IsOfBlocks MacroFault.Unclosed
  deep : IsOfBlocks MacroFault.TooDeep
  many : IsOfBlocks MacroFault.TooManyLines

-- those errors, the line's own error, and the error of its expression
abbrev pub IsOfLine : ℕ → State → Numbered → List Numbered → MacroFault → Type 0
IsOfLine depth e l rest why = IsOfBlocks why ⊎ ((line_fault depth e l rest ≡ Some why) ⊎ (value_of_tokens (constant_table e) (form_of l.text).rest ≡ Err why))
