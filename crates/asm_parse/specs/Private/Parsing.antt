-- How the code reads symbols, step by step.
use Rattle.std.specs.Prelude.{◌-◌, ℕ, List, [], ◌∷◌, Option, Some, None, if◌then◌else◌, nat_le}
use Rattle.asm_parse.specs.declared.operator.Binary.{Binary}
use Rattle.asm_parse.specs.declared.sign.Sign.{Sign}
use Rattle.asm_parse.specs.declared.sign.Prefix.{Prefix}
use Rattle.asm_parse.specs.Expression.{and_then}
use Rattle.asm_parse.specs.Words.{prefix_of, infix_of}
use Rattle.asm_parse.specs.Grammar.{GrammarSymbol, Term, Marked, Phrase, Single, Enclosed, Prefixed, Joined, prefix_level, infix_level}

-- What is around the operand that is read next: an open parenthesis, a prefix operator, or an infix operator with its left operand.
pub data Frame : Type 0 where
  Inside : Frame
  Under : Prefix → Frame
  RightOf : Binary → Phrase → Frame

-- The state after some symbols: the frames, the innermost first, and the operand, if one is complete.
pub record State : Type 0 where
  pub frames : List Frame
  pub operand : Option Phrase

-- how loosely the next operator may bind
abbrev pub room : List Frame → ℕ
room [] = 7
room (Inside ∷ frames) = 7
room (Under p ∷ frames) = prefix_level p
room (RightOf o a ∷ frames) = infix_level o - 1

-- Operators that bind at least as tightly as a level take their operands.
abbrev pub reduce : ℕ → List Frame → Phrase → List Frame × Phrase
reduce level [] a = ([], a)
reduce level (Inside ∷ frames) a = (Inside ∷ frames, a)
reduce level (Under p ∷ frames) a = if nat_le (prefix_level p) level then reduce level frames (Prefixed p a) else (Under p ∷ frames, a)
reduce level (RightOf o a ∷ frames) b = if nat_le (infix_level o) level then reduce level frames (Joined o a b) else (RightOf o a ∷ frames, b)

abbrev pub under_prefix : Option Prefix → List Frame → Option State
under_prefix None frames = None
under_prefix (Some p) frames = if nat_le (prefix_level p) (room frames) then Some (record { frames = Under p ∷ frames; operand = None }) else None

abbrev pub right_of : Option Binary → List Frame → Phrase → Option State
right_of None frames a = None
right_of (Some o) frames a = let done = reduce (infix_level o) frames a in Some (record { frames = RightOf o done.1 ∷ done.0; operand = None })

abbrev pub enclosed : List Frame × Phrase → Option State
enclosed (Inside ∷ frames, a) = Some (record { frames = frames; operand = Some (Enclosed a) })
enclosed _ = None

-- a sign where an operand is expected; `sign_behind` is a sign after a complete operand
abbrev pub sign_before : Sign → List Frame → Option State
sign_before Sign.Open frames = Some (record { frames = Inside ∷ frames; operand = None })
sign_before sign frames = under_prefix (prefix_of sign) frames

abbrev pub sign_behind : Sign → List Frame → Phrase → Option State
sign_behind Sign.Close frames a = enclosed (reduce 7 frames a)
sign_behind sign frames a = right_of (infix_of sign) frames a

abbrev pub step_by : GrammarSymbol → List Frame → Option Phrase → Option State
step_by (Term t) frames None = Some (record { frames = frames; operand = Some (Single t) })
step_by (Marked sign) frames None = sign_before sign frames
step_by (Marked sign) frames (Some a) = sign_behind sign frames a
step_by _ frames operand = None

abbrev pub step : GrammarSymbol → State → Option State
step symbol state = step_by symbol state.frames state.operand

abbrev pub ended : List Frame × Phrase → Option Phrase
ended ([], a) = Some a
ended _ = None

abbrev pub finish_by : List Frame → Option Phrase → Option Phrase
finish_by frames None = None
finish_by frames (Some a) = ended (reduce 7 frames a)

abbrev pub finish : State → Option Phrase
finish state = finish_by state.frames state.operand

abbrev pub reading : List GrammarSymbol → State → Option Phrase
reading [] state = finish state
reading (symbol ∷ symbols) state = and_then (step symbol state) (λ next. reading symbols next)

abbrev pub start : State
start = record { frames = []; operand = None }
