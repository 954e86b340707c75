-- The parts of a line around its tokens.
use Rattle.std.specs.Prelude.{ℕ, List, [], ◌∷◌, length, take, drop}
use Rattle.std.specs.List.{prefix_len}
use Rattle.asm_line.specs.Classes.{is_blank}
use Rattle.asm_line.specs.Tokens.{Lexeme}
use Rattle.asm_line.specs.Lines.{without_blanks}

-- the blanks before its first token
abbrev pub gap : List ℕ → List ℕ
gap line = take (prefix_len is_blank line) line

-- the rest of the line after its first token
abbrev pub after_first_token : List ℕ → Lexeme → List ℕ
after_first_token line token = drop (length token.text) (without_blanks line)

-- the rest of the line after its first tokens
abbrev pub behind_all : List ℕ → List Lexeme → List ℕ
behind_all line [] = line
behind_all line (token ∷ tokens) = behind_all (after_first_token line token) tokens
