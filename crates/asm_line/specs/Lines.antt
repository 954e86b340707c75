-- How a line is cut into tokens.
-- In words: docs/LANGUAGE.md, section 'Lines'.
use Rattle.std.specs.Prelude.{◌≡◌, ◌<◌, ◌≤◌, ◌+◌, ℕ, List, [], ◌∷◌, ◌++◌, Result, Ok, Err, length, take, drop}
use Rattle.std.specs.List.{prefix_len}
use Rattle.asm_line.specs.declared.scan.TheConstants.{LONGEST_LINE}
use Rattle.asm_line.specs.Types.{ScanFault}
use Rattle.asm_line.specs.Classes.{is_blank, semicolon}
use Rattle.asm_line.specs.Tokens.{Lexeme, IsToken, BeginsFault}

abbrev pub without_blanks : List ℕ → List ℕ
without_blanks bytes = drop (prefix_len is_blank bytes) bytes

-- The line is blanks, then this token, then `after`.
pub record BeginsToken (line : List ℕ) (token : Lexeme) (after : List ℕ) : Type 0 where
  pub bytes_are : without_blanks line ≡ token.text ++ after
  pub token_is : IsToken token.kind token.text after

-- The line is these tokens, with blanks before each, and then the rest.
abbrev pub BeginsTokens : List ℕ → List Lexeme → List ℕ → Type 0
BeginsTokens line [] rest = line ≡ rest
BeginsTokens line (token ∷ tokens) rest = (after : List ℕ) × BeginsToken line token after × BeginsTokens after tokens rest

-- nothing, or a comment
abbrev pub IsEnd : List ℕ → Type 0
IsEnd [] = Unit {0}
IsEnd (b ∷ _) = b ≡ semicolon

-- The line is these tokens, with blanks between them and at most one comment at the end.
pub record Cut (line : List ℕ) (tokens : List Lexeme) : Type 0 where
  pub rest : List ℕ
  pub begins : BeginsTokens line tokens rest
  pub ended : IsEnd (without_blanks rest)

-- The line is some tokens, with blanks between them, and then the beginning of what has this error.
pub record HasScanFault (line : List ℕ) (fault : ScanFault) : Type 0 where
  pub tokens : List Lexeme
  pub rest : List ℕ
  pub begins : BeginsTokens line tokens rest
  pub stopped : BeginsFault fault (without_blanks rest)

-- The answer of a line: its tokens, or its one error, which is never NoMemory. A line above 255 bytes is too long, whatever it
-- contains.
abbrev pub Scans : List ℕ → Result (List Lexeme) ScanFault → Type 0
Scans line (Ok tokens) = (length line ≤ LONGEST_LINE) × Cut line tokens
Scans line (Err ScanFault.LineTooLong) = LONGEST_LINE < length line
Scans line (Err fault) = (length line ≤ LONGEST_LINE) × HasScanFault line fault

-- The texts of the tokens are slices of the line, from left to right. None overlap, and the first does not begin before this
-- offset.
abbrev pub AreSpans : List ℕ → ℕ → List Lexeme → Type 0
AreSpans line from [] = Unit {0}
AreSpans line from (token ∷ tokens) =
    (offset : ℕ) × (from ≤ offset) × (offset + length token.text ≤ length line)
    × (take (length token.text) (drop offset line) ≡ token.text)
    × AreSpans line (offset + length token.text) tokens
