-- The tokens of a line that an expander keeps for its caller.
use Rattle.std.specs.Prelude.{◌≡◌, ℕ, List, Option, Some, None, Vec, Ok}
use Rattle.std.specs.Global.{Global}
use Rattle.asm_line.specs.declared.token.Token.{Token}
use Rattle.asm_line.specs.Tokens.{lexemes}
use Rattle.asm_line.specs.Scanned.{scanned}

abbrev pub AreOf : List ℕ → Option (Vec Token Global) → Type 0
AreOf text None = Unit {0}
AreOf text (Some tokens) = scanned text ≡ Ok (lexemes tokens.items)
