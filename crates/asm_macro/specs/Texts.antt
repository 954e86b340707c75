-- A source as a list of lines.
-- In words: docs/LANGUAGE.md, section 'Lines'.
use Rattle.std.specs.Prelude.{ℕ, ◌+◌, ◌==◌, not, List, [], ◌∷◌, map, take}
use Rattle.std.specs.List.{prefix_len}
use Rattle.bstr.specs.Text.{lines_of, without_terminator}
use Rattle.asm_text.specs.Lines.{Numbered}

-- the source up to its first byte 1AH, which ends a text file in CP/M
abbrev pub source_part : List ℕ → List ℕ
source_part text = take (prefix_len (λ byte. not (byte == 0x1A)) text) text

-- its lines, each without the LF or CR LF at its end
abbrev pub source_lines : List ℕ → List (List ℕ)
source_lines text = map without_terminator (lines_of (source_part text))

-- lines with their numbers, which begin at n
abbrev pub numbered : ℕ → List (List ℕ) → List Numbered
numbered n [] = []
numbered n (text ∷ texts) = record { number = n; text = text } ∷ numbered (n + 1) texts
