-- Where a source mentions a name, and which macros it defines.
use Rattle.std.specs.Prelude.{◌||◌, ℕ, Bool, false, List, [], Option, Some, None, if◌then◌else◌, codes}
use Rattle.std.specs.List.{filter_map, flat_map}
use Rattle.std.specs.Str.{str_eq_ignore_ascii_case}
use Rattle.common.specs.Words.{upper}
use Rattle.asm_line.specs.Tokens.{Lexeme}
use Rattle.asm_line.specs.Forms.{Form, Head}
use Rattle.asm_line.specs.Forms as line
use Rattle.asm_line.specs.Single.{is_name}
use Rattle.asm_text.specs.Lines.{Numbered, form_of}
use Rattle.asm_macro.specs.Texts.{numbered, source_lines}
use Rattle.source_warnings.specs.Noted.{Noted, noted_on}

-- the lines of a source as they are written, with their numbers
abbrev pub written_lines : List ℕ → List Numbered
written_lines text = numbered 1 (source_lines text)

-- the name that a token is, in upper case
abbrev pub name_of_token : Lexeme → Option (List ℕ)
name_of_token token = if is_name token then Some (upper token.text) else None

-- the word of the line is EXTRN, or its other spelling EXTERNAL
abbrev pub is_extrn : Head → Bool
is_extrn (line.Word name) = str_eq_ignore_ascii_case name (codes "EXTRN") || str_eq_ignore_ascii_case name (codes "EXTERNAL")
is_extrn _ = false

-- The names that a line mentions: all after its word, wherever the line is, also in a macro or in a branch that is not taken. EXTRN mentions
-- none, and a label does not mention itself.
abbrev pub mentioned_by : Form → List (List ℕ)
mentioned_by form = if is_extrn form.head then [] else filter_map name_of_token form.rest

abbrev pub line_mentions : Numbered → Noted
line_mentions l = noted_on l.number (mentioned_by (form_of l.text))

abbrev pub mentions : List ℕ → Noted
mentions text = flat_map line_mentions (written_lines text)
