-- Names that a program can define.
-- In words: docs/LANGUAGE.md, section 'Names, numbers, strings'.
use Rattle.std.specs.Prelude.{◌≡◌, ℕ, false, List}
use Rattle.asm_line.specs.Tokens.{IsName}
use Rattle.common.specs.Words.{upper, is_reserved}

-- The whole text is one name, in upper case, and not reserved.
pub record IsDefinable (text : List ℕ) : Type 0 where
  pub name : IsName text
  pub upper_case : upper text ≡ text
  pub free : is_reserved text ≡ false
