-- Names separated by commas.
-- In words: docs/LANGUAGE.md, section 'Modules'.
use Rattle.std.specs.Prelude.{ℕ, List, [], ◌∷◌, Option, Some, None, ◌&&◌, if◌then◌else◌}
use Rattle.std.specs.Option.{option_map}
use Rattle.asm_line.specs.Tokens.{Lexeme}
use Rattle.common.specs.Words.{upper}
use Rattle.asm_line.specs.Single.{is_name, is_comma}

-- the names in upper case, at least one; None if the tokens are no such list
abbrev pub name_list : List Lexeme → Option (List (List ℕ))
name_list [] = None
name_list (name ∷ []) = if is_name name then Some (upper name.text ∷ []) else None
name_list (name ∷ comma ∷ rest) = if is_name name && is_comma comma then option_map (λ ns. upper name.text ∷ ns) (name_list rest) else None
