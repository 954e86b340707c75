-- What of an expansion is still to come. This is the meaning of an expander between two lines.
use Rattle.std.specs.Prelude.{◌≡◌, ◌<◌, ◌-◌, ℕ, Bool, true, false, List, [], ◌∷◌, ◌++◌, Result, Ok, Err}
use Rattle.asm_macro.specs.declared.expansion.TheConstants.{MOST_LINES}
use Rattle.asm_macro.specs.declared.expander.Line.{Line}
use Rattle.asm_macro.specs.declared.fault.MacroFault.{MacroFault}
use Rattle.asm_text.specs.Lines.{Numbered}
use Rattle.asm_macro.specs.State.{State, room}
use Rattle.asm_text.specs.Sections.Onward.{Next}
use Rattle.asm_macro.specs.Expands.{End, Ended, Stopped, Expands, Follows, IsDone, IsExpansion}

-- where expansion continues after some lines, and at which depth of calls and repetitions
pub record Around : Type 0 where
  pub depth : ℕ
  pub next : Next

-- the rest of the current lines, with their depth and the state; and where expansion continues after them, the innermost first
pub record Rest : Type 0 where
  pub depth : ℕ
  pub state : State
  pub text : List Numbered
  pub around : List Around

-- How far an expansion is: the source is not read yet; it is in some lines; all lines were given; or it stopped at a line with an error.
pub data Ahead : Type 0 where
  Before : List ℕ → Ahead
  Within : Rest → Ahead
  Over : Ahead
  Halted : ℕ → MacroFault → Ahead

-- After lines that ended with `middle`, expansion continues in the lines around them, gives these lines and ends so.
abbrev pub Resumes : List Around → End → List Numbered → End → Type 0
Resumes [] middle lines end = (lines ≡ []) × (end ≡ middle)
Resumes (a ∷ around) middle lines end =
    (first more : List Numbered) × (then : End) × Follows a.depth middle a.next first then × Resumes around then more end × (lines ≡ first ++ more)

-- These lines are still to come, and then the expansion ends so.
abbrev pub Remains : Ahead → List Numbered → End → Type 0
Remains (Before text) lines end = IsExpansion text lines end
Remains (Within rest) lines end =
    (first more : List Numbered) × (middle : End) × Expands rest.depth rest.state rest.text first middle × Resumes rest.around middle more end × (lines ≡ first ++ more)
Remains Over lines end = (lines ≡ []) × (end ≡ Ended)
Remains (Halted number why) lines end = (lines ≡ []) × (end ≡ Stopped number why)

abbrev pub seen : Line → Numbered
seen l = record { number = l.number; text = l.text.now }

-- An expander as its callers see it: the line that its last call gave, if it gave one, and what is still to come.
pub record Standing : Type 0 where
  pub given : Numbered
  pub ahead : Ahead

-- An expander before its first line.
abbrev pub begun : List ℕ → Standing
begun text = record { given = record { number = 0; text = [] }; ahead = Before text }

-- How many lines may still come, at most. A line that was given is counted already.
abbrev pub most_left : Ahead → ℕ
most_left (Before text) = MOST_LINES
most_left (Within rest) = room rest.state
most_left Over = 0
most_left (Halted number why) = 0

-- What a call of an expander answers and what it leaves. `true`: a line is given; together with what is to come then, it is what was to
-- come before, and fewer lines may come than before. `false`: no line was to come. An error: the expansion stops here, unless memory ran
-- out, which has no cause in the source.
abbrev pub IsNext : Standing → Result Bool (ℕ × MacroFault) → Standing → Type 0
IsNext before (Ok true) after =
    (most_left after.ahead < most_left before.ahead)
    × ((lines : List Numbered) (end : End) → Remains after.ahead lines end → Remains before.ahead (after.given ∷ lines) end)
IsNext before (Ok false) after = (after.ahead ≡ Over) × (end : End) × IsDone end × Remains before.ahead [] end
IsNext before (Err (number, MacroFault.NoMemory)) after = after.ahead ≡ Halted number MacroFault.NoMemory
IsNext before (Err (number, why)) after = (after.ahead ≡ Halted number why) × Remains before.ahead [] (Stopped number why)
