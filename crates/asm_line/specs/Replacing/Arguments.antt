-- The arguments of a call.
-- In words: docs/LANGUAGE.md, section 'Macros'.
use Rattle.std.specs.Prelude.{ℕ, ◌==◌, ◌&&◌, List, [], ◌∷◌, ◌++◌, if◌then◌else◌}
use Rattle.asm_line.specs.Tokens.{Lexeme}
use Rattle.asm_line.specs.Commas.{open_behind}
use Rattle.asm_line.specs.Single.{is_comma}
use Rattle.asm_line.specs.Replacing.Pieces.{gap, after_first_token}

-- an argument with one more token; blanks before its first token do not belong to it
abbrev pub text_with_token : List ℕ → List ℕ → List ℕ → List ℕ
text_with_token [] blanks token = token
text_with_token (b ∷ text) blanks token = ((b ∷ text) ++ blanks) ++ token

-- the rest of the arguments; the first of them begins with `text`, and this many parentheses are open
abbrev pub arguments_from : ℕ → List ℕ → List ℕ → List Lexeme → List (List ℕ)
arguments_from depth text line [] = text ∷ []
arguments_from depth text line (token ∷ tokens) =
    if (depth == 0) && is_comma token then text ∷ arguments_from 0 [] (after_first_token line token) tokens
    else arguments_from (open_behind depth token.kind) (text_with_token text (gap line) token.text) (after_first_token line token) tokens

-- the arguments after a macro's name: they are separated by commas outside of strings and parentheses, and have no blanks at either end; if
-- nothing follows the name, there are no arguments
abbrev pub arguments : List ℕ → List Lexeme → List (List ℕ)
arguments line [] = []
arguments line (token ∷ tokens) = arguments_from 0 [] line (token ∷ tokens)
