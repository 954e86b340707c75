-- The operators and parentheses of expressions, as words and marks.
-- In words: docs/LANGUAGE.md, section 'Expressions'.
use Rattle.std.specs.Prelude.{ℕ, List, [], ◌∷◌, Option, Some, None, codes}
use Rattle.common.specs.Words.{first_word}
use Rattle.asm_parse.specs.declared.operator.Unary.{Unary}
use Rattle.asm_parse.specs.declared.operator.Binary.{Binary}
use Rattle.asm_parse.specs.declared.sign.Sign.{Sign}
use Rattle.asm_parse.specs.declared.sign.Prefix.{Prefix}

-- the operator that a word in upper case names
abbrev pub sign_of : List ℕ → Option Sign
sign_of = first_word ((codes "HIGH", Sign.High) ∷ (codes "LOW", Sign.Low) ∷ (codes "NOT", Sign.Not) ∷ (codes "MOD", Sign.Mod) ∷ (codes "SHL", Sign.Shl) ∷ (codes "SHR", Sign.Shr)
    ∷ (codes "AND", Sign.And) ∷ (codes "OR", Sign.Or) ∷ (codes "XOR", Sign.Xor)
    ∷ (codes "EQ", Sign.Eq) ∷ (codes "NE", Sign.Ne) ∷ (codes "LT", Sign.Lt) ∷ (codes "LE", Sign.Le) ∷ (codes "GT", Sign.Gt) ∷ (codes "GE", Sign.Ge) ∷ [])

-- the prefix operator that a sign is before an operand
abbrev pub prefix_of : Sign → Option Prefix
prefix_of Sign.Plus = Some Prefix.Plus
prefix_of Sign.Minus = Some (Prefix.Operator Unary.Negate)
prefix_of Sign.High = Some (Prefix.Operator Unary.High)
prefix_of Sign.Low = Some (Prefix.Operator Unary.Low)
prefix_of Sign.Not = Some (Prefix.Operator Unary.Not)
prefix_of _ = None

-- the infix operator that a sign is between operands
abbrev pub infix_of : Sign → Option Binary
infix_of Sign.Plus = Some Binary.Add
infix_of Sign.Minus = Some Binary.Subtract
infix_of Sign.Star = Some Binary.Multiply
infix_of Sign.Slash = Some Binary.Divide
infix_of Sign.Mod = Some Binary.Modulo
infix_of Sign.Shl = Some Binary.ShiftLeft
infix_of Sign.Shr = Some Binary.ShiftRight
infix_of Sign.And = Some Binary.And
infix_of Sign.Or = Some Binary.Or
infix_of Sign.Xor = Some Binary.Xor
infix_of Sign.Eq = Some Binary.Equal
infix_of Sign.Ne = Some Binary.NotEqual
infix_of Sign.Lt = Some Binary.Less
infix_of Sign.Le = Some Binary.LessOrEqual
infix_of Sign.Gt = Some Binary.Greater
infix_of Sign.Ge = Some Binary.GreaterOrEqual
infix_of _ = None
