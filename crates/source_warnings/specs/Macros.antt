-- The macros that a source defines, and its calls of them.
use Rattle.std.specs.Prelude.{ℕ, ◌==◌, not, Bool, false, List, [], ◌∷◌, Option, Some, None, length}
use Rattle.std.specs.List.{filter, flat_map}
use Rattle.std.specs.Option.{option_map, option_map_or, option_to_list}
use Rattle.common.specs.Words.{upper}
use Rattle.asm_line.specs.Tokens.{Lexeme}
use Rattle.asm_line.specs.Forms.{Head, form}
use Rattle.asm_line.specs.Forms as line
use Rattle.asm_line.specs.Lists.{name_list}
use Rattle.asm_text.specs.Calls.{arguments_in}
use Rattle.asm_text.specs.Lines.{Numbered, form_of}
use Rattle.source_warnings.specs.Mentions.{written_lines}
use Rattle.source_warnings.specs.Noted.{Noted, first_noted, noted_on}

-- the macro that a line defines, and the one that it may call
abbrev pub macro_defined : Head → Option (List ℕ)
macro_defined (line.Macro name) = Some (upper name)
macro_defined _ = None

abbrev pub called_macro : Head → Option (List ℕ)
called_macro (line.Word name) = Some (upper name)
called_macro _ = None

-- the macros that a source defines, wherever the lines are
abbrev pub line_defines : Numbered → Noted
line_defines l = noted_on l.number (option_to_list (macro_defined (form_of l.text).head))

abbrev pub macro_definitions : List ℕ → Noted
macro_definitions text = flat_map line_defines (written_lines text)

-- those that an earlier line defines too
abbrev pub is_later : Noted → List ℕ × ℕ → Bool
is_later noted d = not (option_map_or (λ first. first == d.1) (first_noted noted d.0) false)

abbrev pub line_defines_again : Noted → Numbered → Noted
line_defines_again noted l = filter (is_later noted) (line_defines l)

abbrev pub later_definitions : List ℕ → Noted
later_definitions text = flat_map (line_defines_again (macro_definitions text)) (written_lines text)

-- how many parameters a MACRO line lists; None if they are no names
abbrev pub parameter_count : List Lexeme → Option ℕ
parameter_count [] = Some 0
parameter_count (t ∷ ts) = option_map length (name_list (t ∷ ts))

-- how many arguments a call has
abbrev pub argument_count : List ℕ → Option (List Lexeme) → ℕ
argument_count text (Some tokens) = length (arguments_in text tokens (form tokens).rest)
argument_count text None = 0
