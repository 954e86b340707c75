-- A line with whole names replaced.
-- In words: docs/LANGUAGE.md, section 'Macros'.
use Rattle.std.specs.Prelude.{◌≡◌, ℕ, ◌+◌, List, [], ◌∷◌, ◌++◌, if◌then◌else◌, length, drop, codes, decimal}
use Rattle.std.specs.Option.{unwrap_or}
use Rattle.std.specs.Map.{lookup}
use Rattle.std.specs.Str.{bytes_eq}
use Rattle.asm_line.specs.Tokens.{Lexeme}
use Rattle.common.specs.Words.{upper}
use Rattle.asm_line.specs.Single.{is_name}
use Rattle.asm_line.specs.Replacing.Pieces.{gap, after_first_token}

-- names in upper case, each with what replaces it; if a name occurs twice, the first one counts
abbrev pub ReplacementTable : Type 0
ReplacementTable = List (List ℕ × List ℕ)

-- The tables replace each name by the same.
abbrev pub SaySame : ReplacementTable → ReplacementTable → Type 0
SaySame t u = (name : List ℕ) → lookup (bytes_eq name) t ≡ lookup (bytes_eq name) u

-- a token as it is, or what its name is replaced by
abbrev pub swapped : ReplacementTable → Lexeme → List ℕ
swapped table token =
    if is_name token then unwrap_or (lookup (bytes_eq (upper token.text)) table) token.text else token.text

-- a line with each of its tokens replaced if it is in the table; blanks and a comment stay
abbrev pub replaced_tokens : ReplacementTable → List ℕ → List Lexeme → List ℕ
replaced_tokens table line [] = line
replaced_tokens table line (token ∷ tokens) = (gap line ++ swapped table token) ++ replaced_tokens table (after_first_token line token) tokens

-- the name that LOCAL makes from a number: ?? and at least five decimal digits
abbrev pub local_name : ℕ → List ℕ
local_name n = (codes "??" ++ drop (length (decimal n)) (codes "00000")) ++ decimal n

-- each of these names with the LOCAL name of the next number
abbrev pub local_names : ℕ → List (List ℕ) → ReplacementTable
local_names counter [] = []
local_names counter (name ∷ names) = (name, local_name counter) ∷ local_names (counter + 1) names

-- each parameter with its argument; a missing argument is empty, and one too many is ignored
abbrev pub arguments_of : List (List ℕ) → List (List ℕ) → ReplacementTable
arguments_of [] arguments = []
arguments_of (parameter ∷ parameters) [] = (parameter, []) ∷ arguments_of parameters []
arguments_of (parameter ∷ parameters) (argument ∷ arguments) = (parameter, argument) ∷ arguments_of parameters arguments
