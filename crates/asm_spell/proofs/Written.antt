-- The tokens between the parentheses of an operand.
use Rattle.std.proofs.Common.{◌≡◌, ◌-◌, List, length, take, drop, ap, sym, ◌∙◌, arith}
use Rattle.std.proofs.lemmas.List.{take-map, drop-map, length-map}
use Rattle.asm_line.specs.declared.token.Token.{Token}
use Rattle.asm_line.specs.Tokens.{lexeme, lexemes}
use Rattle.asm_spell.specs.Operands.{inner}

pub inner_is : (ts : List Token) → lexemes (take (length ts - 1 - 1) (drop 1 ts)) ≡ inner (lexemes ts)
inner_is ts =
    let two : length ts - 1 - 1 ≡ length (lexemes ts) - 2 = omega (arith, length-map ts lexeme) in
    sym (take-map lexeme (length ts - 1 - 1) (drop 1 ts)) ∙ ap (λ xs. take (length ts - 1 - 1) xs) (sym (drop-map lexeme 1 ts)) ∙ ap (λ n. take n (drop 1 (lexemes ts))) two
