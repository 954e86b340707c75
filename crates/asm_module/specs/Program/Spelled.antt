-- Lines that can be parsed.
use Rattle.std.specs.Prelude.{◌≡◌, ℕ, List, Option, Some, Ok}
use Rattle.asm_line.specs.Scanned.{scanned}
use Rattle.asm_line.specs.Tokens.{Lexeme}
use Rattle.asm_spell.specs.Line.{Body, Line, Statement}
use Rattle.asm_spell.specs.Spelling.{spelled}

-- Some tokens parse as a line with this statement and these operands.
pub record IsSpelled (b : Body) : Type 0 where
  pub tokens : List Lexeme
  pub label : Option (List ℕ)
  pub is : spelled tokens ≡ Ok (Statement label (Some b))

-- Some text scans and parses as this line.
pub record IsLineOfText (l : Line) : Type 0 where
  pub text : List ℕ
  pub tokens : List Lexeme
  pub scans : scanned text ≡ Ok tokens
  pub parses : spelled tokens ≡ Ok l
