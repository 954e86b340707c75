-- The entries, and the beginnings of data: words that are addresses of bytes of the program.
use Rattle.std.specs.Prelude.{ℕ, ◌+◌, ◌&&◌, not, Bool, false, List, [], ◌∷◌, Option, Some, None, Result, Ok, find, if◌then◌else◌, nat_le, nat_lt}
use Rattle.std.specs.Option.{option_map_or}
use Rattle.std.specs.Str.{bytes_eq}
use Rattle.asm_line.specs.Scanned.{scanned}
use Rattle.asm_line.specs.Tokens.{Lexeme}
use Rattle.asm_line.specs.declared.fault.ScanFault.{ScanFault}
use Rattle.asm_line.specs.declared.token.Kind.{Kind}
use Rattle.common.specs.declared.limits.TheConstants.{FIRST_PLACE}

abbrev pub number_of_kind : Kind → Option ℕ
number_of_kind (Kind.Number n) = Some n
number_of_kind kind = None

-- the number that the tokens of a word are, if the whole word is one number
abbrev pub only_number : List ℕ → Result (List Lexeme) ScanFault → Option ℕ
only_number word (Ok (token ∷ [])) = if bytes_eq token.text word then number_of_kind token.kind else None
only_number word answer = None

-- the value of a word that is a number of the language
abbrev pub number_word : List ℕ → Option ℕ
number_word word = only_number word (scanned word)

-- whether a program of `count` bytes has a byte at this address
abbrev pub has_byte_at : ℕ → ℕ → Bool
has_byte_at count address = nat_le FIRST_PLACE address && nat_lt address (FIRST_PLACE + count)

abbrev pub is_entry : ℕ → List ℕ → Bool
is_entry count word = option_map_or (has_byte_at count) (number_word word) false

-- the first of the words that is no address of a program of `count` bytes
abbrev pub first_bad_entry : ℕ → List (List ℕ) → Option (List ℕ)
first_bad_entry count words = find (λ word. not (is_entry count word)) words
