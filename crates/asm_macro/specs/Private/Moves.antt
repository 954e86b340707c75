-- One move of an expander: it reads a line, or continues after lines that are all expanded.
use Rattle.std.specs.Prelude.{◌≡◌, Option, Some, None, ◌+◌, ◌*◌, ◌-◌, ◌≤◌, ◌<◌, ℕ, List, [], ◌∷◌, Result, Ok, Err, Vec, All, length, map, reverse}
use Rattle.std.specs.Global.{Global}
use Rattle.common.specs.declared.limits.TheConstants.{LONGEST_TEXT}
use Rattle.asm_macro.specs.declared.take.TheConstants.{MOST_NESTED}
use Rattle.asm_macro.specs.declared.expansion.TheConstants.{MOST_LINES}
use Rattle.asm_line.specs.Replacing.Replaced.{ReplacementTable}
use Rattle.asm_text.specs.declared.book.Book.{Book}
use Rattle.asm_macro.specs.declared.expansion.Expansion.{Expansion}
use Rattle.asm_text.specs.declared.following.Following.{Following}
use Rattle.asm_macro.specs.declared.moves.Given.{Given}
use Rattle.asm_macro.specs.declared.moves.Taken.{Taken}
use Rattle.asm_macro.specs.declared.moves.Stop.{Stop}
use Rattle.asm_macro.specs.declared.fault.MacroFault.{MacroFault}
use Rattle.asm_text.specs.Lines.{Numbered}
use Rattle.asm_macro.specs.State as state
use Rattle.asm_macro.specs.Parts as parts
use Rattle.asm_macro.specs.Expands.{Ended, Stopped, IsDone}
use Rattle.asm_macro.specs.Expands as expands
use Rattle.asm_macro.specs.Ahead.{Around, Rest, Remains, Within}
use Rattle.asm_text.specs.Spans.{text_of}
use Rattle.asm_text.specs.declared.call.Macro.{Macro}
use Rattle.asm_text.specs.declared.call.Call.{Call}
use Rattle.asm_text.specs.Prepared.{macros_seen, said}
use Rattle.asm_text.specs.Kept.{IsKeptMacro, IsCall}
use Rattle.asm_text.specs.Sections.Books.{IsBook}
use Rattle.asm_macro.specs.Private.Frames.{AreBooks, around_seen, innermost, turns_in}

-- the names that the open calls replace, the innermost first
abbrev pub tables_in : Expansion → List ReplacementTable
tables_in x = map (λ call. said call) (reverse x.calls.items)

abbrev pub state_of : Expansion → state.State
state_of x = record {
  macros = macros_seen x.lines x.macros.entries;
  constants = x.constants;
  counter = x.counter;
  count = x.count;
}

-- what is left to expand
abbrev pub rest_of : Expansion → Rest
rest_of x = record {
  depth = length (tables_in x) + x.turns;
  state = state_of x;
  text = text_of x.lines (innermost (tables_in x)) x.text;
  around = around_seen x.lines (tables_in x) (reverse x.around.items);
}

-- What the code keeps while it expands: the source has no more lines than bytes; `repeated` is how many repetitions are open; calls and
-- repetitions nest to 16 at most; no more lines were read than allowed; the tables of where blocks end are right for the current lines, the
-- lines around and the source; and so is what is kept of macros and open calls.
pub record Sound (texts : List (List ℕ)) (tables : List ReplacementTable) (around : List Following) (calls repeated taken : ℕ) (own : Book) (others : List Book) (bottom : Book) (kept : List (Vec ℕ Global × Macro)) (called : List Call) : Type 0 where
  pub short : length texts ≤ LONGEST_TEXT
  pub turns : repeated ≡ turns_in around
  pub shallow : calls + repeated ≤ MOST_NESTED
  pub few : taken ≤ MOST_LINES
  pub book : IsBook texts (innermost tables) own
  pub books : AreBooks texts tables others
  pub source : IsBook texts None bottom
  pub macros : All (λ e. IsKeptMacro texts e.1) kept
  pub open_calls : All (IsCall texts) called

abbrev pub IsSound : Expansion → Type 0
IsSound x = Sound x.lines (tables_in x) (reverse x.around.items) (length x.calls.items) x.turns x.count x.book (reverse x.books.items) x.source x.macros.entries x.calls.items

-- What a move does: it gives lines, and a rest is to come; it gives the last line; it gives lines and then stops with an error; or all
-- lines are expanded.
pub data Moved : Type 0 where
  On : List Numbered → Rest → Moved
  End : Numbered → Moved
  Fails : List Numbered → ℕ → MacroFault → Moved
  Done : Moved

-- what a part leads to, given its depth and where expansion continues after it
abbrev pub moved : ℕ → List Around → parts.ExpansionPart → Moved
moved depth around (parts.Stop given number why) = Fails given number why
moved depth around (parts.Last l) = End l
moved depth around (parts.Go given e text) = On given (record { depth = depth; state = e; text = text; around = around })
moved depth around (parts.Within given e inner text next) =
    On given (record { depth = inner; state = e; text = text; around = record { depth = depth; next = next } ∷ around })

abbrev pub in_text : ℕ → state.State → List Numbered → List Around → Moved
in_text depth e (l ∷ text) around = moved depth around (parts.line_part depth e l text)
in_text depth e [] (a ∷ around) = moved a.depth around (parts.resumed a.depth a.next e)
in_text depth e [] [] = Done

abbrev pub next_move : Rest → Moved
next_move r = in_text r.depth r.state r.text r.around

-- what is answered for a line that is read, and what is left after it
abbrev pub Takes : Numbered → Result Taken Stop → Rest → Moved → Type 0
Takes l (Err Stop.NoMemory) new move = Unit {0}
Takes l (Err (Stop.At number why)) new move = move ≡ Fails [] number why
Takes l (Ok Taken.Nothing) new move = move ≡ On [] new
Takes l (Ok Taken.Line) new move = move ≡ On (l ∷ []) new
Takes l (Ok Taken.Last) new move = move ≡ End l
Takes l (Ok (Taken.Label text)) new move = move ≡ On (record { number = l.number; text = text.items } ∷ []) new
Takes l (Ok (Taken.Refused text)) new move = move ≡ Fails (record { number = l.number; text = text.items } ∷ []) l.number MacroFault.Stray

-- the same for a move that gives no line
abbrev pub Resumes : Result (Unit {0}) Stop → Rest → Moved → Type 0
Resumes (Err Stop.NoMemory) new move = Unit {0}
Resumes (Err (Stop.At number why)) new move = move ≡ Fails [] number why
Resumes (Ok done) new move = move ≡ On [] new

-- what is answered for a move, with the line that it gives
abbrev pub Gives : List ℕ → Result (Option Given) Stop → Rest → Moved → Type 0
Gives text (Err Stop.NoMemory) new move = Unit {0}
Gives text (Err (Stop.At number why)) new move = move ≡ Fails [] number why
Gives text (Ok None) new move = move ≡ On [] new
Gives text (Ok (Some (Given.Line number))) new move = move ≡ On (record { number = number; text = text } ∷ []) new
Gives text (Ok (Some (Given.Last number))) new move = move ≡ End (record { number = number; text = text })
Gives text (Ok (Some (Given.Refused number))) new move = move ≡ Fails (record { number = number; text = text } ∷ []) number MacroFault.Stray
Gives text (Ok (Some Given.Over)) new move = move ≡ Done

-- how many more moves there may be, at most
abbrev pub most_moves : Expansion → ℕ
most_moves x = 2 * (MOST_LINES - x.count) + length x.around.items

-- Fewer moves are left than before, and a line that is given was counted.
abbrev pub Lessens : Expansion → Option Given → Expansion → Type 0
Lessens old None new = (most_moves new < most_moves old) × (old.count ≤ new.count)
Lessens old (Some Given.Over) new = Unit {0}
Lessens old (Some _) new = old.count < new.count

-- What several moves answer: what was to come is the line that is given, and then what is to come after it.
abbrev pub Goes : Rest → List ℕ → Result Given Stop → Rest → Type 0
Goes old text (Err Stop.NoMemory) new = Unit {0}
Goes old text (Err (Stop.At number why)) new = Remains (Within old) [] (Stopped number why)
Goes old text (Ok (Given.Line number)) new =
    (lines : List Numbered) (end : expands.End) → Remains (Within new) lines end → Remains (Within old) (record { number = number; text = text } ∷ lines) end
Goes old text (Ok (Given.Last number)) new = Remains (Within old) (record { number = number; text = text } ∷ []) Ended
Goes old text (Ok (Given.Refused number)) new = Remains (Within old) (record { number = number; text = text } ∷ []) (Stopped number MacroFault.Stray)
Goes old text (Ok Given.Over) new = (end : expands.End) × IsDone end × Remains (Within old) [] end
