-- The errors of one line when expansion reaches it, before its expression is parsed: each of them, and then which one is reported.
-- In words: docs/LANGUAGE.md, section 'Macros'.
use Rattle.std.specs.Prelude.{ℕ, Bool, true, false, not, ◌||◌, ◌&&◌, List, [], ◌∷◌, Option, Some, None, Result, Ok, Err, if◌then◌else◌, nat_le, nat_lt, is_some}
use Rattle.asm_macro.specs.declared.expansion.TheConstants.{MOST_LINES}
use Rattle.asm_line.specs.declared.fault.ScanFault.{ScanFault}
use Rattle.asm_line.specs.Tokens.{Lexeme}
use Rattle.common.specs.Words.{upper, is_reserved}
use Rattle.asm_line.specs.declared.forms.BlockWord.{BlockWord}
use Rattle.asm_line.specs.Forms.{Form, Head}
use Rattle.asm_line.specs.Forms as line
use Rattle.asm_line.specs.Lists.{name_list}
use Rattle.asm_line.specs.Scanned.{scanned}
use Rattle.asm_macro.specs.declared.fault.MacroFault.{MacroFault}
use Rattle.asm_macro.specs.Faults.{fault_of_scan}
use Rattle.asm_text.specs.Lines.{Numbered, form_of}
use Rattle.asm_macro.specs.State.{State, macro_named}
use Rattle.asm_text.specs.Sections.Blocks.{block_body, branches_of}

-- LOCAL does not count as a line that is read, nor does a word that divides or closes a block.
abbrev pub is_counted : Head → Bool
is_counted (line.Block BlockWord.Local) = false
is_counted (line.Block BlockWord.Else) = false
is_counted (line.Block BlockWord.EndIf) = false
is_counted (line.Block BlockWord.EndM) = false
is_counted _ = true

-- as many lines and repetitions were read already as is allowed
abbrev pub too_many_lines : State → Head → Option MacroFault
too_many_lines e head = if is_counted head && nat_le MOST_LINES e.count then Some MacroFault.TooManyLines else None

-- the line is too long, or cannot be tokenized
abbrev pub unscanned : Result (List Lexeme) ScanFault → Option MacroFault
unscanned (Ok tokens) = None
unscanned (Err fault) = Some (fault_of_scan fault)

-- the parameters of a macro: none, or names with commas between them
abbrev pub parameters : List Lexeme → Option (List (List ℕ))
parameters [] = Some []
parameters (token ∷ tokens) = name_list (token ∷ tokens)

-- Whether a line is misplaced. MACRO has to be outside of calls and repetitions, without a label, with a list of parameters and with a name
-- that is not reserved. REPT and IF may not have a label. LOCAL, MACRO without a name, and a word that divides or closes no open block are
-- always misplaced. (A LOCAL line at the beginning of a body is not read as a line.)
abbrev pub is_stray : ℕ → Form → Head → Bool
is_stray depth form (line.Macro name) = ((is_some form.label || nat_lt 0 depth) || is_reserved (upper name)) || not (is_some (parameters form.rest))
is_stray depth form (line.Block BlockWord.Rept) = is_some form.label
is_stray depth form (line.Block BlockWord.If) = is_some form.label
is_stray depth form (line.Block word) = true
is_stray depth form _ = false

abbrev pub stray_fault : ℕ → Form → Option MacroFault
stray_fault depth form = if is_stray depth form form.head then Some MacroFault.Stray else None

-- there is a macro with this name already
abbrev pub redefined : State → Head → Option MacroFault
redefined e (line.Macro name) = if is_some (macro_named e (upper name)) then Some MacroFault.Redefined else None
redefined e _ = None

abbrev pub unless_some : Bool → Option MacroFault
unless_some true = None
unless_some false = Some MacroFault.Unclosed

-- none of the following lines closes the block
abbrev pub unclosed : Head → List Numbered → Option MacroFault
unclosed (line.Macro name) rest = unless_some (is_some (block_body rest))
unclosed (line.Block BlockWord.Rept) rest = unless_some (is_some (block_body rest))
unclosed (line.Block BlockWord.If) rest = unless_some (is_some (branches_of rest))
unclosed _ rest = None

-- the first error of a list
abbrev pub first_macro_fault : List (Option MacroFault) → Option MacroFault
first_macro_fault [] = None
first_macro_fault (Some fault ∷ faults) = Some fault
first_macro_fault (None ∷ faults) = first_macro_fault faults

-- the error of a line, given the lines that follow it: the first of these
abbrev pub line_fault : ℕ → State → Numbered → List Numbered → Option MacroFault
line_fault depth e l rest =
    let form = form_of l.text in
    first_macro_fault (too_many_lines e form.head ∷ unscanned (scanned l.text) ∷ stray_fault depth form ∷ redefined e form.head ∷ unclosed form.head rest ∷ [])
