-- What a line that can be tokenized and is counted leads to, by its first words.
use Rattle.std.specs.Prelude.{ℕ, ◌++◌, Bool, true, false, List, [], ◌∷◌, Option, Some, None, Result, Ok, Err, if◌then◌else◌, is_some}
use Rattle.std.specs.Map.{lookup}
use Rattle.std.specs.Str.{bytes_eq}
use Rattle.asm_line.specs.Tokens.{Lexeme}
use Rattle.common.specs.Words.{upper}
use Rattle.asm_line.specs.declared.forms.BlockWord.{BlockWord}
use Rattle.asm_line.specs.Forms.{Form, Head}
use Rattle.asm_line.specs.Forms as line
use Rattle.asm_macro.specs.declared.fault.MacroFault.{MacroFault}
use Rattle.asm_text.specs.Lines.{Numbered}
use Rattle.asm_macro.specs.State.{State, macro_called, macro_named, constant_table, with_macro}
use Rattle.asm_macro.specs.Values.{value_of_tokens}
use Rattle.asm_text.specs.Sections.Blocks.{BlockBody, block_body, branches_of}
use Rattle.asm_macro.specs.Judged.{is_stray, parameters}
use Rattle.asm_macro.specs.Parts.{ExpansionPart, Go, closing, fails, line_texts, definition, repeated, conditional, equ_part, word_part}

-- the constants with one more, if its name is new and has a value
abbrev pub with_worth : List ℕ → Result ℕ MacroFault → List (List ℕ × ℕ) → List (List ℕ × ℕ)
with_worth name (Ok n) constants = constants ++ (name, n) ∷ []
with_worth name (Err why) constants = constants

abbrev pub constants_with : List (List ℕ × ℕ) → List ℕ → Result ℕ MacroFault → List (List ℕ × ℕ)
constants_with constants name value = if is_some (lookup (bytes_eq name) constants) then constants else with_worth name value constants

-- a macro is kept under its name in upper case, if its body is closed
abbrev pub kept : State → Numbered → List ℕ → List (List ℕ) → Option BlockBody → ExpansionPart
kept e l key some (Some body) = closing body.section.end (Go [] (with_macro key (record { parameters = some; body = line_texts body.section.lines }) e) body.after)
kept e l key some None = fails l MacroFault.Unclosed

-- a MACRO line, which is an error if it is misplaced or its name is not new
abbrev pub unless_redefined : Bool → Numbered → ExpansionPart → ExpansionPart
unless_redefined true l part = fails l MacroFault.Redefined
unless_redefined false l part = part

abbrev pub unless_stray : Bool → Numbered → ExpansionPart → ExpansionPart
unless_stray true l part = fails l MacroFault.Stray
unless_stray false l part = part

abbrev pub defined : ℕ → State → Numbered → Form → List ℕ → List Numbered → ExpansionPart
defined depth e l form name rest =
    unless_stray (is_stray depth form (line.Macro name)) l (unless_redefined (is_some (macro_named e (upper name))) l (definition e l name (parameters form.rest) (block_body rest)))

-- what a line leads to, by its first words
abbrev pub by_head : Head → ℕ → State → Numbered → Form → List Lexeme → List Numbered → ExpansionPart
by_head (line.Equ name) depth e l form tokens rest = equ_part e l name form.rest rest
by_head (line.Macro name) depth e l form tokens rest = defined depth e l form name rest
by_head (line.Block BlockWord.Rept) depth e l form tokens rest = unless_stray (is_some form.label) l (repeated depth e l (block_body rest) (value_of_tokens (constant_table e) form.rest))
by_head (line.Block BlockWord.If) depth e l form tokens rest = unless_stray (is_some form.label) l (conditional depth e l (branches_of rest) (value_of_tokens (constant_table e) form.rest))
by_head (line.Block word) depth e l form tokens rest = fails l MacroFault.Stray
by_head (line.Word name) depth e l form tokens rest = word_part depth e l form tokens rest (upper name) (macro_called e (upper name))
by_head line.Nothing depth e l form tokens rest = Go (l ∷ []) e rest
