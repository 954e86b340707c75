-- Which lines of a body may have another role in a call than they have as written.
use Rattle.std.specs.Prelude.{◌+◌, ◌&&◌, ◌||◌, ℕ, Bool, true, false, List, [], ◌∷◌, Option, Some, None, if◌then◌else◌, is_some, take}
use Rattle.std.specs.List.{list_any}
use Rattle.std.specs.Map.{lookup}
use Rattle.std.specs.Str.{bytes_eq}
use Rattle.common.specs.Words.{upper}
use Rattle.asm_line.specs.Tokens.{Lexeme}
use Rattle.asm_line.specs.Single.{is_colon, is_name}
use Rattle.asm_line.specs.Forms.{form}
use Rattle.asm_text.specs.declared.matching.Role.{Role}
use Rattle.asm_line.specs.Replacing.Fronts.{goes_on}
use Rattle.asm_line.specs.Replacing.Replaced.{ReplacementTable}
use Rattle.asm_text.specs.declared.signs.Sign.{Sign}
use Rattle.asm_text.specs.Lines.{heard}
use Rattle.asm_text.specs.Roles.{role_of_head}
use Rattle.asm_text.specs.Signs.{has_sign}

-- whether a token is a name of the table
abbrev pub is_held : ReplacementTable → Lexeme → Bool
is_held table token = is_name token && is_some (lookup (bytes_eq (upper token.text)) table)

abbrev pub with_next : Bool → ℕ → ℕ
with_next true n = n + 1
with_next false n = n

-- How many first tokens decide the head of a line that begins with a name and a colon, given its tokens after these, plus one if
-- the last may become longer when the next is replaced. 5 is all tokens of a line that has fewer.
abbrev pub asked_labelled : List Lexeme → ℕ
asked_labelled (c ∷ d ∷ rest) = with_next (goes_on d.kind) 4
asked_labelled rest = 5

abbrev pub asked : List Lexeme → ℕ
asked (a ∷ b ∷ rest) = if is_colon b then asked_labelled rest else with_next (goes_on b.kind) 2
asked tokens = 5

-- the tokens of a line that may change its role when replaced; all of them if it has a block word, since a line that replacement
-- makes too long has no role
abbrev pub asked_of : Role → List Lexeme → List Lexeme
asked_of Role.Other tokens = take (asked tokens) tokens
asked_of _ tokens = tokens

-- whether the role of a line may depend on what replaces the names of the table; a line with a scan error has no names
abbrev pub may_vary : ReplacementTable → Option (List Lexeme) → Bool
may_vary table (Some tokens) = list_any (is_held table) (asked_of (role_of_head (form tokens).head) tokens)
may_vary table None = false

abbrev pub is_of_blocks : Role → Bool
is_of_blocks Role.Other = false
is_of_blocks _ = true

-- whether a line's first token may be a block word: it is one or a name of the table, or it is a number or string before such a
-- name
abbrev pub first_varies : ReplacementTable → List Lexeme → Bool
first_varies table [] = false
first_varies table (token ∷ tokens) =
    is_of_blocks (role_of_head (form (token ∷ [])).head) || list_any (is_held table) (take (with_next (goes_on token.kind) 1) (token ∷ tokens))

abbrev pub first_of_line_varies : ReplacementTable → Option (List Lexeme) → Bool
first_of_line_varies table (Some tokens) = first_varies table tokens
first_of_line_varies table None = false

-- whether the role of a line may depend on what replaces the names of the table, if all replacements are plain to the sign
abbrev pub may_vary_plain : Sign → ReplacementTable → List ℕ → Bool
may_vary_plain Sign.Word table line = has_sign Sign.Word line
may_vary_plain Sign.Second table line = has_sign Sign.Second line || first_of_line_varies table (heard line)
