-- How a line begins: its label and its head.
-- In words: docs/LANGUAGE.md, section 'Lines'.
use Rattle.std.specs.Prelude.{ℕ, List, [], ◌∷◌, Option, Some, None, ◌&&◌, if◌then◌else◌, codes}
use Rattle.std.specs.Str.{str_eq_ignore_ascii_case}
use Rattle.asm_line.specs.Tokens.{Lexeme}
use Rattle.asm_line.specs.declared.forms.BlockWord.{BlockWord}
use Rattle.asm_line.specs.Single.{is_name, is_colon, is_word}

-- The head of a line: a definition, with the name that it defines; a block word; any other word; or no word. Names are as written.
pub data Head : Type 0 where
  Equ : List ℕ → Head
  Macro : List ℕ → Head
  Block : BlockWord → Head
  Word : List ℕ → Head
  Nothing : Head

-- a line: the label before its head, the head, and the tokens after it
pub record Form : Type 0 where
  pub label : Option (List ℕ)
  pub head : Head
  pub rest : List Lexeme

-- the block word that a name is, in upper or lower case
abbrev pub block_named : List ℕ → Option BlockWord
block_named name =
    if str_eq_ignore_ascii_case name (codes "MACRO") then Some BlockWord.Macro
    else if str_eq_ignore_ascii_case name (codes "LOCAL") then Some BlockWord.Local
    else if str_eq_ignore_ascii_case name (codes "REPT") then Some BlockWord.Rept
    else if str_eq_ignore_ascii_case name (codes "IF") then Some BlockWord.If
    else if str_eq_ignore_ascii_case name (codes "ELSE") then Some BlockWord.Else
    else if str_eq_ignore_ascii_case name (codes "ENDIF") then Some BlockWord.EndIf
    else if str_eq_ignore_ascii_case name (codes "ENDM") then Some BlockWord.EndM
    else None

abbrev pub head_of_block : List ℕ → Option BlockWord → Head
head_of_block name (Some block) = Block block
head_of_block name None = Word name

-- a line whose word is this token, if it is a name
abbrev pub worded : Option (List ℕ) → Lexeme → List Lexeme → Form
worded label word rest =
    if is_name word then record { label = label; head = head_of_block word.text (block_named word.text); rest = rest }
    else record { label = label; head = Nothing; rest = word ∷ rest }

-- the tokens after a label, if there is one: `name MACRO`, or a word
abbrev pub headed : Option (List ℕ) → List Lexeme → Form
headed label (name ∷ word ∷ rest) =
    if is_name name && is_word (codes "MACRO") word then record { label = label; head = Macro name.text; rest = rest }
    else worded label name (word ∷ rest)
headed label (word ∷ []) = worded label word []
headed label [] = record { label = label; head = Nothing; rest = [] }

abbrev pub defined : List ℕ → List Lexeme → Form
defined name rest = record { label = None; head = Equ name; rest = rest }

-- a name and a colon: a label, unless EQU follows
abbrev pub labelled : List ℕ → List Lexeme → Form
labelled name (word ∷ rest) = if is_word (codes "EQU") word then defined name rest else headed (Some name) (word ∷ rest)
labelled name [] = headed (Some name) []

-- the form of a line: a definition by EQU, with or without a colon after the name; or a label, if there is one, and what follows it
abbrev pub form : List Lexeme → Form
form (name ∷ second ∷ rest) =
    if is_name name && is_word (codes "EQU") second then defined name.text rest
    else if is_name name && is_colon second then labelled name.text rest
    else headed None (name ∷ second ∷ rest)
form tokens = headed None tokens
