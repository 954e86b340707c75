-- Lines, and the label and head with which they begin.
use Rattle.std.specs.Prelude.{ℕ, List, [], Option, Some, None, Result, Ok, Err}
use Rattle.asm_line.specs.declared.fault.ScanFault.{ScanFault}
use Rattle.asm_line.specs.Tokens.{Lexeme}
use Rattle.asm_line.specs.Forms.{Form, Nothing, form}
use Rattle.asm_line.specs.Scanned.{scanned}

-- a line, and the number that it bears
pub record Numbered : Type 0 where
  pub number : ℕ
  pub text : List ℕ

abbrev pub tokens_in : Result (List Lexeme) ScanFault → Option (List Lexeme)
tokens_in (Ok tokens) = Some tokens
tokens_in (Err fault) = None

-- the tokens of a line, or None if it has a scan error
abbrev pub heard : List ℕ → Option (List Lexeme)
heard text = tokens_in (scanned text)

-- the label and head of a line, and the tokens after them; none of these if the line has a scan error
abbrev pub form_by : Option (List Lexeme) → Form
form_by (Some tokens) = form tokens
form_by None = record { label = None; head = Nothing; rest = [] }

abbrev pub form_of : List ℕ → Form
form_of text = form_by (heard text)
