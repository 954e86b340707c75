-- Where in a line the place of a message is.
use Rattle.std.specs.Prelude.{◌≡◌, ◌+◌, ◌-◌, ◌<◌, ◌≤◌, ℕ, List, length, take}
use Rattle.asm_line.specs.Tokens.{Lexeme}
use Rattle.asm_line.specs.Lines.{without_blanks}
use Rattle.asm_line.specs.Replacing.Pieces.{behind_all}
use Rattle.message_texts.specs.declared.parts.Place.{Place}

-- The place ends where the line ends, or before.
abbrev pub IsInLine : List ℕ → Place → Type 0
IsInLine line place = place.at + place.len ≤ length line

-- how many bytes of a line come before this one of its tokens, counted from 0
abbrev pub token_begin : List ℕ → List Lexeme → ℕ → ℕ
token_begin line tokens number = length line - length (without_blanks (behind_all line (take number tokens)))

-- how many bytes of a line there are up to the end of so many of its tokens
abbrev pub tokens_end : List ℕ → List Lexeme → ℕ → ℕ
tokens_end line tokens count = length line - length (behind_all line (take count tokens))

-- The place is from the first byte of a token to the last byte of this or a later token.
pub record CoversTokens (line : List ℕ) (tokens : List Lexeme) (place : Place) : Type 0 where
  pub first : ℕ
  pub count : ℕ
  pub some : 0 < count
  pub few : first + count ≤ length tokens
  pub at_is : place.at ≡ token_begin line tokens first
  pub len_is : place.len ≡ tokens_end line tokens (first + count) - place.at
