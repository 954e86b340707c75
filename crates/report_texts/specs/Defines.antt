-- Which words are definitions.
use Rattle.std.specs.Prelude.{ℕ, ◌&&◌, not, Bool, true, false, List, [], ◌∷◌, Option, Result, Ok, Err, find}
use Rattle.std.specs.Str.{bytes_eq}
use Rattle.asm_line.specs.Scanned.{scanned}
use Rattle.asm_line.specs.Tokens.{Lexeme}
use Rattle.asm_line.specs.declared.fault.ScanFault.{ScanFault}
use Rattle.asm_line.specs.declared.token.Kind.{Kind}
use Rattle.asm_spell.specs.Line as line
use Rattle.asm_spell.specs.Line.{Line}
use Rattle.asm_spell.specs.Spelling.{spelled}
use Rattle.asm_spell.specs.declared.fault.StmtFault.{StmtFault}
use Rattle.report_texts.specs.Front.{defined_name, defined_value, define_line}

abbrev pub is_number : Kind → Bool
is_number (Kind.Number n) = true
is_number _ = false

-- three tokens: this name, EQU, and this value, which is a number
abbrev pub are_name_and_number : List ℕ → List ℕ → List Lexeme → Bool
are_name_and_number name value (first ∷ equ ∷ last ∷ []) = bytes_eq first.text name && (is_number last.kind && bytes_eq last.text value)
are_name_and_number name value _ = false

abbrev pub defines_name : Result Line StmtFault → Bool
defines_name (Ok (line.Equ name value)) = true
defines_name _ = false

abbrev pub is_definition_by : List ℕ → Result (List Lexeme) ScanFault → Bool
is_definition_by word (Ok tokens) = are_name_and_number (defined_name word) (defined_value word) tokens && defines_name (spelled tokens)
is_definition_by word (Err why) = false

-- The word is NAME=VALUE: the line NAME EQU VALUE defines a name, NAME and VALUE are one token each, and VALUE is a number.
abbrev pub is_definition : List ℕ → Bool
is_definition word = is_definition_by word (scanned (define_line word))

-- The first word that is not a definition.
abbrev pub first_bad : List (List ℕ) → Option (List ℕ)
first_bad words = find (λ word. not (is_definition word)) words
