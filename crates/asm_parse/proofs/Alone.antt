-- An expression of one token.
use Rattle.std.proofs.Common.{◌≡◌, ◌≤◌, ◌<◌, ◌⊎◌, inl, inr, List, [], ◌∷◌, Result, Err, refl, sym, subst, length, map, get_or, arith}
use Rattle.asm_line.specs.Tokens.{lexeme, lexemes}
use Rattle.asm_line.specs.declared.token.Token.{Token}
use Rattle.asm_parse.specs.declared.fault.ExprFault.{ExprFault}
use Rattle.asm_parse.specs.declared.item.Item.{Item}
use Rattle.asm_parse.specs.Source.{Operand}
use Rattle.asm_parse.specs.Grammar.{IsParsed, GrammarSymbol, symbol}
use Rattle.asm_parse.specs.Parsed.{parsed_symbols}
use Rattle.asm_parse.proofs.Parsed.{is_parsed}

one : (tokens : List Token) (d : Token) → 1 ≤ length tokens → length tokens < 2 → symbol (lexeme (get_or tokens 0 d)) ∷ [] ≡ map symbol (lexemes tokens)
one [] d least below = absurd (omega (arith, least))
one (t ∷ []) d least below = refl
one (t ∷ u ∷ tokens) d least below = absurd (omega (arith, below))

is_answer : (symbols : List GrammarSymbol) (r : Result (List (Item Operand)) ExprFault) → (r ≡ parsed_symbols symbols) ⊎ (r ≡ Err ExprFault.NoMemory) → IsParsed symbols r
is_answer symbols r (inl e) = subst (IsParsed symbols) (sym e) (is_parsed symbols)
is_answer symbols r (inr e) = subst (IsParsed symbols) (sym e) tt

pub spelled : (tokens : List Token) (d : Token) (r : Result (List (Item Operand)) ExprFault) → 1 ≤ length tokens → length tokens < 2
    → (r ≡ parsed_symbols (symbol (lexeme (get_or tokens 0 d)) ∷ [])) ⊎ (r ≡ Err ExprFault.NoMemory) → IsParsed (map symbol (lexemes tokens)) r
spelled tokens d r least below answers = subst (λ s. IsParsed s r) (one tokens d least below) (is_answer (symbol (lexeme (get_or tokens 0 d)) ∷ []) r answers)
