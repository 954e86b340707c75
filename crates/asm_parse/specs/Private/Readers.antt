-- The state of the code that reads symbols.
use Rattle.std.specs.Prelude.{◌≡◌, ◌-◌, ℕ, Bool, true, false, List, Option, Some, None, Result, length, map, drop, slice_get}
use Rattle.asm_parse.specs.declared.fault.ExprFault.{ExprFault}
use Rattle.asm_parse.specs.declared.reader.Operator.{Operator}
use Rattle.asm_parse.specs.declared.reader.Pending.{Pending}
use Rattle.asm_parse.specs.declared.reader.Reader.{Reader}
use Rattle.asm_parse.specs.Source.{source_item}
use Rattle.asm_parse.specs.Grammar.{GrammarSymbol, Phrase, prefix_level, infix_level}
use Rattle.asm_parse.specs.Private.Parsing.{Frame, Inside, Under, State, reading, start}
use Rattle.asm_parse.specs.Private.Stacks.{Holds, Answers}

abbrev pub HoldsIn : List Frame → Option Phrase → Reader → Type 0
HoldsIn frames operand r = Holds (record { frames = frames; operand = operand }) r.pending.items (map source_item r.items.items) r.deepest r.complete

abbrev pub Reads : Option State → {A : Type 0} → Result A ExprFault → Reader → Type 0
Reads next result r = Answers next result r.pending.items (map source_item r.items.items) r.deepest r.complete

-- the frame of a prefix operator, or of a parenthesis
abbrev pub frame_of : Operator → Frame
frame_of (Operator.Under p) = Under p
frame_of _ = Inside

abbrev pub opens : Operator → Bool
opens (Operator.RightOf o) = false
opens _ = true

-- how loosely the next operator may bind
abbrev pub room_by : Operator → ℕ
room_by Operator.Inside = 7
room_by (Operator.Under p) = prefix_level p
room_by (Operator.RightOf o) = infix_level o - 1

abbrev pub room_of : Option Pending → ℕ
room_of None = 7
room_of (Some p) = room_by p.operator

abbrev pub room_in : List Pending → ℕ
room_in pending = room_of (slice_get pending (length pending - 1))

-- The first `read` symbols have been read.
pub record ReadIn (symbols : List GrammarSymbol) (read : ℕ) (r : Reader) : Type 0 where
  pub state : State
  pub holds : HoldsIn state.frames state.operand r
  pub left : reading (drop read symbols) state ≡ reading symbols start

-- The reader holds the state after some symbols.
abbrev pub IsReading : Reader → Type 0
IsReading r = (state : State) × HoldsIn state.frames state.operand r
