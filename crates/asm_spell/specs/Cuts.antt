-- What the cut into operands and the partner of a parenthesis are, given how many parentheses are open at each token. laws::cut and
-- laws::enclosed say that specs/Operands.antt means the same, so nobody has to follow how its definitions walk over the tokens.
use Rattle.std.specs.Prelude.{◌≡◌, ◌≢◌, ℕ, true, List, [], ◌∷◌, ◌++◌}
use Rattle.asm_line.specs.Tokens.{Lexeme}
use Rattle.asm_line.specs.Commas.{open_behind}
use Rattle.asm_line.specs.Single.{is_comma}

-- how many parentheses are open after these tokens, if `depth` are open before them
abbrev pub open_after : ℕ → List Lexeme → ℕ
open_after depth [] = depth
open_after depth (t ∷ ts) = open_after (open_behind depth t.kind) ts

-- Each comma among the tokens is within parentheses.
abbrev pub IsUncut : ℕ → List Lexeme → Type 0
IsUncut depth tokens = (front : List Lexeme) (comma : Lexeme) (back : List Lexeme) → tokens ≡ front ++ comma ∷ back → is_comma comma ≡ true → open_after depth front ≢ 0

-- Commas outside of parentheses separate the tokens into these pieces.
abbrev pub AreCut : ℕ → List Lexeme → List (List Lexeme) → Type 0
AreCut depth tokens [] = ⊥
AreCut depth tokens (piece ∷ []) = (tokens ≡ piece) × IsUncut depth piece
AreCut depth tokens (piece ∷ next ∷ pieces) = (comma : Lexeme) × (rest : List Lexeme)
    × (tokens ≡ piece ++ comma ∷ rest) × (is_comma comma ≡ true) × (open_after depth piece ≡ 0) × IsUncut depth piece
    × AreCut 0 rest (next ∷ pieces)

-- The last token closes what is open, and no token before it does.
pub record IsClosed (depth : ℕ) (tokens : List Lexeme) : Type 0 where
  pub some : tokens ≢ []
  pub closed : open_after depth tokens ≡ 0
  pub not_before : (front : List Lexeme) (t : Lexeme) (more : List Lexeme) → front ≢ [] → tokens ≡ front ++ t ∷ more → open_after depth front ≢ 0
