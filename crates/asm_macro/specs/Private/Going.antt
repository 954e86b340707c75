-- Where expansion continues at a block: how much it opens, and what may be opened.
use Rattle.std.specs.Prelude.{◌≡◌, ◌<◌, ℕ, List, [], Result, Ok, Err}
use Rattle.asm_macro.specs.declared.take.TheConstants.{MOST_NESTED}
use Rattle.asm_text.specs.declared.following.Following.{Following}
use Rattle.asm_text.specs.Sections.Onward as onward
use Rattle.asm_text.specs.Lines.{Numbered}
use Rattle.asm_macro.specs.declared.fault.MacroFault.{MacroFault}
use Rattle.asm_macro.specs.declared.moves.Stop as moves
use Rattle.asm_macro.specs.State.{State}
use Rattle.asm_macro.specs.Parts.{ExpansionPart, Stop, Within}

-- How many repetitions of a REPT begin, and how many spans of lines.
abbrev pub turn_in : Following → ℕ
turn_in (Following.Turns left number body) = 1
turn_in (Following.Rest s) = 0
turn_in (Following.BehindFirst c) = 0
turn_in (Following.BehindSecond c) = 0

abbrev pub turn_next : onward.Next → ℕ
turn_next (onward.Turns left number body) = 1
turn_next (onward.Rest more) = 0
turn_next (onward.BehindFirst b) = 0
turn_next (onward.BehindSecond t more after) = 0

abbrev pub turns_opened : onward.Onward → ℕ
turns_opened (onward.Stray number) = 0
turns_opened (onward.On text) = 0
turns_opened (onward.Into text next) = turn_next next

abbrev pub texts_opened : onward.Onward → ℕ
texts_opened (onward.Stray number) = 0
texts_opened (onward.On text) = 0
texts_opened (onward.Into text next) = 1

-- What may begin if this many calls and repetitions are open: a branch; a repetition of a REPT if one more may be open; but no call.
abbrev pub FitsNext : ℕ → onward.Next → Type 0
FitsNext many (onward.Turns left number body) = many < MOST_NESTED
FitsNext many (onward.Rest more) = ⊥
FitsNext many (onward.BehindFirst b) = Unit {0}
FitsNext many (onward.BehindSecond t more after) = Unit {0}

abbrev pub Fits : ℕ → onward.Onward → Type 0
Fits many (onward.Stray number) = Unit {0}
Fits many (onward.On text) = Unit {0}
Fits many (onward.Into text next) = FitsNext many next

-- Once its repetition is counted, the lines of a body or branch begin with this state and depth; or there is an error instead.
abbrev pub Enters : Result (Unit {0}) moves.Stop → State → ℕ → List Numbered → onward.Next → ExpansionPart → Type 0
Enters (Ok done) e depth text next part = part ≡ Within [] e depth text next
Enters (Err moves.Stop.NoMemory) e depth text next part = Unit {0}
Enters (Err (moves.Stop.At number why)) e depth text next part = part ≡ Stop [] number why
