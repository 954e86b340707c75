-- If an expansion stops, its error has a cause in the source: it is never that memory ran out, and has that never inside.
use Rattle.std.proofs.Common.{◌≢◌, ◌&&◌, if◌then◌else◌, subst, inl, inr, ℕ, suc, Bool, true, false, nat_le, is_some, List, [], ◌∷◌, Option, Some, None, Result, Ok, Err}
use Rattle.asm_macro.specs.declared.expansion.TheConstants.{MOST_LINES}
use Rattle.asm_line.specs.declared.fault.ScanFault.{ScanFault}
use Rattle.asm_line.specs.Tokens.{Lexeme}
use Rattle.asm_line.specs.Lines.{Scans}
use Rattle.asm_line.specs.Scanned.{scanned}
use Rattle.common.specs.Words.{upper}
use Rattle.asm_line.specs.declared.forms.BlockWord.{BlockWord}
use Rattle.asm_line.specs.Forms.{Form, Head}
use Rattle.asm_line.specs.Forms as line
use Rattle.asm_text.specs.Lines.{Numbered, form_of}
use Rattle.asm_text.specs.Sections.Blocks.{block_body, branches_of}
use Rattle.asm_text.specs.Sections.Onward.{Next}
use Rattle.asm_macro.specs.declared.fault.MacroFault.{MacroFault}
use Rattle.asm_macro.specs.State.{State, with_line_counted, macro_named, constant_table, room}
use Rattle.asm_macro.specs.Judged.{first_macro_fault, is_counted, is_stray, line_fault, redefined, stray_fault, too_many_lines, unclosed, unless_some, unscanned}
use Rattle.asm_macro.specs.Parts.{ExpansionPart, Stop, Last, Go, Within, line_part, resumed}
use Rattle.asm_macro.specs.Leads.{IsOfBlocks, IsOfLine, Leads, StopsFor}
use Rattle.asm_macro.specs.Leads as leads
use Rattle.asm_macro.specs.Expands.{End, Whole, Ended, Stopped, Expands, nothing, line, Comes, stop, last, go, within, Follows, whole, ended, stopped, IsExpansion, long, short}
use Rattle.z80dev.specs.Causes.{IsOfSource}
use Rattle.z80dev.proofs.Faults.{scans_caused, worth_caused}

-- why a part of an expansion stops, if it does
abbrev why_of : ExpansionPart → MacroFault
why_of (Stop given number why) = why
why_of _ = MacroFault.Stray

abbrev pub why_behind : End → MacroFault
why_behind (Stopped number why) = why
why_behind _ = MacroFault.Stray

abbrev IsCaused : ExpansionPart → Type 0
IsCaused p = IsOfSource (why_of p)

abbrev NoneOf : Option MacroFault → Type 0
NoneOf None = Unit {0}
NoneOf (Some why) = IsOfSource why

-- an error has a cause if each error of its kind has one
cause_of : (Why : MacroFault → Type 0) (p : ExpansionPart) → ((why : MacroFault) → Why why → IsOfSource why) → StopsFor Why p → IsCaused p
cause_of Why (Stop given number why) each h = each why h
cause_of Why (Last l) each h = tt
cause_of Why (Go given e rest) each h = tt
cause_of Why (Within given e inner text next) each h = tt

of_blocks_caused : (why : MacroFault) → IsOfBlocks why → IsOfSource why
of_blocks_caused _ leads.stray = tt
of_blocks_caused _ leads.unclosed = tt
of_blocks_caused _ leads.deep = tt
of_blocks_caused _ leads.many = tt

-- the errors of a line that expansion reads
first_caused : (fault : Option MacroFault) (faults : List (Option MacroFault)) → NoneOf fault → NoneOf (first_macro_fault faults) → NoneOf (first_macro_fault (fault ∷ faults))
first_caused (Some fault) faults one others = one
first_caused None faults one others = others

no_fault : NoneOf (first_macro_fault [])
no_fault = tt

if_caused : (b : Bool) (why : MacroFault) → IsOfSource why → NoneOf (if b then Some why else None)
if_caused true why h = h
if_caused false why h = tt

unread_caused : (text : List ℕ) (s : Result (List Lexeme) ScanFault) → Scans text s → NoneOf (unscanned s)
unread_caused text (Ok tokens) scans = tt
unread_caused text (Err why) scans = scans_caused text why scans

redefined_caused : (e : State) (h : Head) → NoneOf (redefined e h)
redefined_caused e (line.Macro name) = if_caused (is_some (macro_named e (upper name))) MacroFault.Redefined tt
redefined_caused e (line.Equ name) = tt
redefined_caused e (line.Block word) = tt
redefined_caused e (line.Word name) = tt
redefined_caused e line.Nothing = tt

unless_some_caused : (b : Bool) → NoneOf (unless_some b)
unless_some_caused true = tt
unless_some_caused false = tt

block_caused : (h : Head) (rest : List Numbered) → NoneOf (unclosed h rest)
block_caused (line.Macro name) rest = unless_some_caused (is_some (block_body rest))
block_caused (line.Block BlockWord.Rept) rest = unless_some_caused (is_some (block_body rest))
block_caused (line.Block BlockWord.If) rest = unless_some_caused (is_some (branches_of rest))
block_caused (line.Block BlockWord.Macro) rest = tt
block_caused (line.Block BlockWord.Local) rest = tt
block_caused (line.Block BlockWord.Else) rest = tt
block_caused (line.Block BlockWord.EndIf) rest = tt
block_caused (line.Block BlockWord.EndM) rest = tt
block_caused (line.Equ name) rest = tt
block_caused (line.Word name) rest = tt
block_caused line.Nothing rest = tt

-- given the clauses of `asm_line::laws::scanned` and `asm_macro::laws::parts`
module _
    (scans : (text : List ℕ) → Scans text (scanned text))
    (parts : (depth : ℕ) (e : State) (l : Numbered) (rest : List Numbered) → Leads (IsOfLine depth e l rest) 1 (room e) (line_part depth e l rest))
    (onward : (depth : ℕ) (next : Next) (e : State) → Leads IsOfBlocks 0 (suc (room e)) (resumed depth next e))
  where
    line_caused : (depth : ℕ) (e : State) (l : Numbered) (rest : List Numbered) → NoneOf (line_fault depth e l rest)
    line_caused depth e l rest =
        let f = form_of l.text in
        first_caused (too_many_lines e f.head) _ (if_caused (is_counted f.head && nat_le MOST_LINES e.count) MacroFault.TooManyLines tt)
        (first_caused (unscanned (scanned l.text)) _ (unread_caused l.text (scanned l.text) (scans l.text))
        (first_caused (stray_fault depth f) _ (if_caused (is_stray depth f f.head) MacroFault.Stray tt)
        (first_caused (redefined e f.head) _ (redefined_caused e f.head)
        (first_caused (unclosed f.head rest) [] (block_caused f.head rest) no_fault))))

    of_line_caused : (depth : ℕ) (e : State) (l : Numbered) (rest : List Numbered) (why : MacroFault) → IsOfLine depth e l rest why → IsOfSource why
    of_line_caused depth e l rest why (inl of_blocks) = of_blocks_caused why of_blocks
    of_line_caused depth e l rest why (inr (inl own)) = subst NoneOf own (line_caused depth e l rest)
    of_line_caused depth e l rest why (inr (inr valued)) = worth_caused (constant_table (with_line_counted e)) (form_of l.text).rest why valued

    mutual
      expands_caused : (d : ℕ) (e : State) (text lines : List Numbered) (end : End) → Expands d e text lines end → IsOfSource (why_behind end)
      expands_caused d e [] _ _ nothing = tt
      expands_caused d e (l ∷ rest) lines end (line a) =
          comes_caused d (line_part d e l rest) lines end (cause_of (IsOfLine d e l rest) (line_part d e l rest) (of_line_caused d e l rest) (parts d e l rest).2) a

      comes_caused : (d : ℕ) (p : ExpansionPart) (lines : List Numbered) (end : End) → IsCaused p → Comes d p lines end → IsOfSource (why_behind end)
      comes_caused d (Stop given n why) _ _ h stop = h
      comes_caused d (Last l) _ _ h last = tt
      comes_caused d (Go given e rest) _ end h (go lines a) = expands_caused d e rest lines end a
      comes_caused d (Within given e inner text next) _ end h (within lines more middle a f) = follows_caused d middle next more end (expands_caused inner e text lines middle a) f

      follows_caused : (d : ℕ) (middle : End) (next : Next) (lines : List Numbered) (end : End) → IsOfSource (why_behind middle) → Follows d middle next lines end → IsOfSource (why_behind end)
      follows_caused d (Whole e) next lines end h (whole a) =
          comes_caused d (resumed d next e) lines end (cause_of IsOfBlocks (resumed d next e) of_blocks_caused (onward d next e).2) a
      follows_caused d Ended next _ _ h ended = tt
      follows_caused d (Stopped n why) next _ _ h stopped = h

    pub has_cause : (text : List ℕ) (lines : List Numbered) (end : End) → IsExpansion text lines end → IsOfSource (why_behind end)
    has_cause text _ _ (long h) = tt
    has_cause text lines end (short h a) = expands_caused _ _ _ lines end a

-- such an error is not that memory ran out
pub not_memory : (why : MacroFault) → IsOfSource why → why ≢ MacroFault.NoMemory
not_memory why is e = subst IsOfSource e is
