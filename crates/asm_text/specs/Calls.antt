-- A call of a macro: the lines of its body with names replaced.
-- In words: docs/LANGUAGE.md, section 'Macros'.
use Rattle.std.specs.Prelude.{ℕ, ◌-◌, List, [], ◌∷◌, ◌++◌, Option, Some, None, length, map, take}
use Rattle.asm_line.specs.Tokens.{Lexeme}
use Rattle.asm_line.specs.declared.forms.BlockWord.{BlockWord}
use Rattle.asm_line.specs.Forms.{Form, Head}
use Rattle.asm_line.specs.Forms as line
use Rattle.asm_line.specs.Lists.{name_list}
use Rattle.asm_line.specs.Replacing.Pieces.{gap, after_first_token, behind_all}
use Rattle.asm_line.specs.Replacing.Replaced.{ReplacementTable, replaced_tokens, local_names, arguments_of}
use Rattle.asm_line.specs.Replacing.Arguments.{arguments}
use Rattle.asm_text.specs.Lines.{Numbered, form_of, heard}

-- a macro: its parameters in upper case, and the lines of its body
pub record Macro : Type 0 where
  pub parameters : List (List ℕ)
  pub body : List (List ℕ)

-- The names of the LOCAL lines with which a body begins, and the lines after these.
pub record Opened : Type 0 where
  pub locals : List (List ℕ)
  pub lines : List (List ℕ)

-- the names of a LOCAL line, given its label and the tokens after LOCAL; None if it has a label or something other than names
abbrev pub local_line : Option (List ℕ) → List Lexeme → Option (List (List ℕ))
local_line None rest = name_list rest
local_line (Some label) rest = None

abbrev pub with_locals : Option (List (List ℕ)) → Option Opened → Option Opened
with_locals (Some some) (Some opened) = Some (record opened { locals = some ++ opened.locals })
with_locals _ _ = None

-- a body, opened, given its first line with its head and form, the lines after that, and those lines opened
abbrev pub opened_by : Head → Form → List ℕ → List (List ℕ) → Option Opened → Option Opened
opened_by (line.Block BlockWord.Local) form text texts rest = with_locals (local_line form.label form.rest) rest
opened_by _ form text texts rest = Some (record { locals = []; lines = text ∷ texts })

-- a body, opened; None if one of the LOCAL lines with which it begins is malformed
abbrev pub opened : List (List ℕ) → Option Opened
opened [] = Some (record { locals = []; lines = [] })
opened (text ∷ texts) = opened_by (form_of text).head (form_of text) text texts (opened texts)

-- a line with its names replaced, given its tokens; as written if it has a scan error
abbrev pub replaced_by : ReplacementTable → List ℕ → Option (List Lexeme) → List ℕ
replaced_by table text (Some tokens) = replaced_tokens table text tokens
replaced_by table text None = text

abbrev pub replaced_line : ReplacementTable → List ℕ → List ℕ
replaced_line table text = replaced_by table text (heard text)

-- the lines of a body with its names replaced; they bear the number of the call
abbrev pub body_lines : ℕ → ReplacementTable → List (List ℕ) → List Numbered
body_lines number table texts = map (λ text. record { number = number; text = replaced_line table text }) texts

-- the arguments of a calling line, given all its tokens and those of them that follow the macro's name
abbrev pub arguments_in : List ℕ → List Lexeme → List Lexeme → List (List ℕ)
arguments_in text tokens rest = arguments (behind_all text (take (length tokens - length rest) tokens)) rest

-- what a call replaces names by: parameters by arguments, then LOCAL names by new names
abbrev pub table_of : Macro → List (List ℕ) → ℕ → List (List ℕ) → ReplacementTable
table_of m some counter locals = arguments_of m.parameters some ++ local_names counter locals

-- a line's label as written, from its name to the colon
abbrev pub label_as_written : List ℕ → List Lexeme → List ℕ
label_as_written text (name ∷ colon ∷ tokens) = (name.text ++ gap (after_first_token text name)) ++ colon.text
label_as_written text _ = []

-- the label of a calling line, as a line of its own
abbrev pub label_lines : Option (List ℕ) → Numbered → List Lexeme → List Numbered
label_lines None l tokens = []
label_lines (Some label) l tokens = record { number = l.number; text = label_as_written l.text tokens } ∷ []
