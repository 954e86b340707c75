-- What a line that expansion reaches leads to, given the lines that follow it: `line_part`, at the end of this file.
-- In words: docs/LANGUAGE.md, section 'Macros'.
use Rattle.std.specs.Prelude.{ℕ, ◌+◌, List, [], ◌∷◌, Option, Some, None, Result, Ok, Err, if◌then◌else◌, nat_le, length, map, codes}
use Rattle.std.specs.Str.{bytes_eq}
use Rattle.asm_macro.specs.declared.take.TheConstants.{MOST_NESTED}
use Rattle.asm_macro.specs.declared.expansion.TheConstants.{MOST_LINES}
use Rattle.asm_line.specs.declared.fault.ScanFault.{ScanFault}
use Rattle.asm_line.specs.Tokens.{Lexeme}
use Rattle.common.specs.Words.{upper}
use Rattle.asm_line.specs.declared.forms.BlockWord.{BlockWord}
use Rattle.asm_line.specs.Forms.{Form, Head}
use Rattle.asm_line.specs.Forms as line
use Rattle.asm_line.specs.Scanned.{scanned}
use Rattle.asm_macro.specs.declared.fault.MacroFault.{MacroFault}
use Rattle.asm_text.specs.Lines.{Numbered, form_of}
use Rattle.asm_text.specs.Calls.{Macro, Opened, opened, body_lines, arguments_in, table_of, label_lines}
use Rattle.asm_macro.specs.State.{State, macro_called, with_macro, is_constant, with_constant, with_line_counted, constant_table}
use Rattle.asm_macro.specs.Values.{value_of_tokens}
use Rattle.asm_text.specs.Roles.{is_alone}
use Rattle.asm_text.specs.Sections.Blocks.{BlockBody, Branches, block_body, branches_of}
use Rattle.asm_text.specs.Sections.Onward.{Next, Rest, BehindFirst, BehindSecond, Turns, Onward, Stray, On, Into, behind, branch, turns}
use Rattle.asm_macro.specs.Faults.{fault_of_scan}
use Rattle.asm_macro.specs.Judged.{parameters, line_fault}

-- What a line leads to. A line that is given is one of the expansion.
pub data ExpansionPart : Type 0 where
  -- these lines are given, and then expansion stops with an error at the line with this number, from 1
  Stop : List Numbered → ℕ → MacroFault → ExpansionPart
  -- this line is given, and is the last one
  Last : Numbered → ExpansionPart
  -- these lines are given, and then, in this state, the lines that follow are expanded
  Go : List Numbered → State → List Numbered → ExpansionPart
  -- these lines are given; then, in this state and at this depth of calls and repetitions, other lines are expanded; and then expansion
  -- continues with what follows those
  Within : List Numbered → State → ℕ → List Numbered → Next → ExpansionPart

abbrev pub fails : Numbered → MacroFault → ExpansionPart
fails l why = Stop [] l.number why

-- the part, unless a line that closes a block has something else in it
abbrev pub closing : Numbered → ExpansionPart → ExpansionPart
closing l part = if is_alone (form_of l.text) then part else fails l MacroFault.Stray

-- The lines of a body or branch are expanded next, and then what follows them. A repetition of a REPT is one level deeper, and counts as
-- a line that is read.
abbrev pub into : ℕ → State → List Numbered → Next → ExpansionPart
into depth e text (Turns left number body) =
    if nat_le MOST_LINES e.count then Stop [] number MacroFault.TooManyLines else Within [] (with_line_counted e) (depth + 1) text (Turns left number body)
into depth e text (Rest more) = Within [] e depth text (Rest more)
into depth e text (BehindFirst b) = Within [] e depth text (BehindFirst b)
into depth e text (BehindSecond t more after) = Within [] e depth text (BehindSecond t more after)

-- where expansion continues, as a part: at this depth, with this state
abbrev pub onward_part : ℕ → State → Onward → ExpansionPart
onward_part depth e (Stray number) = Stop [] number MacroFault.Stray
onward_part depth e (On text) = Go [] e text
onward_part depth e (Into text next) = into depth e text next

-- an error if as many calls and repetitions as allowed are open; also for a REPT 0, which repeats nothing
abbrev pub unless_deep : ℕ → Numbered → ExpansionPart → ExpansionPart
unless_deep depth l part = if nat_le MOST_NESTED depth then fails l MacroFault.TooDeep else part

-- where expansion continues after some lines, with the state that they leave
abbrev pub resumed : ℕ → Next → State → ExpansionPart
resumed depth next e = onward_part depth e (behind next)

-- REPT and IF, given the value of their expression. (A block that nothing closes is refused before, by `line_fault`.)
abbrev pub repeated : ℕ → State → Numbered → Option BlockBody → Result ℕ MacroFault → ExpansionPart
repeated depth e l (Some body) (Ok n) = unless_deep depth l (onward_part depth e (turns n l.number body))
repeated depth e l (Some body) (Err fault) = fails l fault
repeated depth e l None value = fails l MacroFault.Unclosed

abbrev pub conditional : ℕ → State → Numbered → Option Branches → Result ℕ MacroFault → ExpansionPart
conditional depth e l (Some branches) (Ok n) = onward_part depth e (branch n branches)
conditional depth e l (Some branches) (Err fault) = fails l fault
conditional depth e l None value = fails l MacroFault.Unclosed

abbrev pub line_texts : List Numbered → List (List ℕ)
line_texts lines = map (λ l. l.text) lines

-- `name MACRO`, given its parameters and its body
abbrev pub definition : State → Numbered → List ℕ → Option (List (List ℕ)) → Option BlockBody → ExpansionPart
definition e l name (Some some) (Some body) =
    closing body.section.end (Go [] (with_macro (upper name) (record { parameters = some; body = line_texts body.section.lines }) e) body.after)
definition e l name None body = fails l MacroFault.Stray
definition e l name (Some some) None = fails l MacroFault.Unclosed

-- `name EQU`: if several lines define a name, the first one that has a value counts. An expression without a value here is no error: it may
-- use labels, and is judged later.
abbrev pub learned : List ℕ → State → Result ℕ MacroFault → State
learned name e (Ok n) = with_constant (upper name) n e
learned name e (Err fault) = e

abbrev pub equ_part : State → Numbered → List ℕ → List Lexeme → List Numbered → ExpansionPart
equ_part e l name tokens rest = Go (l ∷ []) (if is_constant e (upper name) then e else learned name e (value_of_tokens (constant_table e) tokens)) rest

-- A call: its label is given, and then the body is expanded with its parameters replaced by the arguments, and each LOCAL name by the next of
-- ??00000, ??00001 and so on. If a LOCAL line of the body is malformed, the label is given and then expansion stops.
abbrev pub call_part : ℕ → State → Numbered → Form → List Lexeme → List Numbered → Macro → Option Opened → ExpansionPart
call_part depth e l form tokens rest m (Some body) =
    Within (label_lines form.label l tokens) (record e { counter = e.counter + length body.locals }) (depth + 1)
    (body_lines l.number (table_of m (arguments_in l.text tokens form.rest) e.counter body.locals) body.lines) (Rest rest)
call_part depth e l form tokens rest m None = Stop (label_lines form.label l tokens) l.number MacroFault.Stray

-- a line that begins with a word: a call if a macro has this name; otherwise END, or a line that is given as it is
abbrev pub word_part : ℕ → State → Numbered → Form → List Lexeme → List Numbered → List ℕ → Option Macro → ExpansionPart
word_part depth e l form tokens rest name (Some m) = unless_deep depth l (call_part depth e l form tokens rest m (opened m.body))
word_part depth e l form tokens rest name None = if bytes_eq name (codes "END") then Last l else Go (l ∷ []) e rest

-- a line without an error of its own
abbrev pub head_part : Head → ℕ → State → Numbered → Form → List Lexeme → List Numbered → ExpansionPart
head_part (line.Equ name) depth e l form tokens rest = equ_part e l name form.rest rest
head_part (line.Macro name) depth e l form tokens rest = definition e l name (parameters form.rest) (block_body rest)
head_part (line.Block BlockWord.Rept) depth e l form tokens rest = repeated depth e l (block_body rest) (value_of_tokens (constant_table e) form.rest)
head_part (line.Block BlockWord.If) depth e l form tokens rest = conditional depth e l (branches_of rest) (value_of_tokens (constant_table e) form.rest)
head_part (line.Block word) depth e l form tokens rest = fails l MacroFault.Stray
head_part (line.Word name) depth e l form tokens rest = word_part depth e l form tokens rest (upper name) (macro_called e (upper name))
head_part line.Nothing depth e l form tokens rest = Go (l ∷ []) e rest

abbrev pub read_part : ℕ → State → Numbered → List Numbered → Result (List Lexeme) ScanFault → ExpansionPart
read_part depth e l rest (Ok tokens) = head_part (form_of l.text).head depth (with_line_counted e) l (form_of l.text) tokens rest
read_part depth e l rest (Err fault) = fails l (fault_of_scan fault)

abbrev pub judged_part : ℕ → State → Numbered → List Numbered → Option MacroFault → ExpansionPart
judged_part depth e l rest (Some fault) = fails l fault
judged_part depth e l rest None = read_part depth e l rest (scanned l.text)

-- what a line leads to, at a depth of calls and repetitions, given the lines that follow it
abbrev pub line_part : ℕ → State → Numbered → List Numbered → ExpansionPart
line_part depth e l rest = judged_part depth e l rest (line_fault depth e l rest)
