-- Symbols have exactly one answer, and the function gives it.
use Rattle.std.proofs.Common.{◌≡◌, ◌<◌, ◌≤◌, List, Option, Some, None, Result, Ok, Err, nat_lt, refl, sym, subst, ◌∙◌, ap, ◌⊎◌, inl, inr}
use Rattle.std.proofs.lemmas.Bool.{cases_lt, cond-true, cond-false, le-ltb, lt-ltb}
use Rattle.asm_parse.specs.declared.fault.ExprFault.{ExprFault}
use Rattle.asm_parse.specs.declared.item.Item.{Item}
use Rattle.asm_parse.specs.Expression.{postfix}
use Rattle.asm_parse.specs.Source.{Operand}
use Rattle.asm_parse.specs.Grammar.{IsParsed, Phrase, SpellsPhrase, GrammarSymbol, depth, expression}
use Rattle.asm_parse.specs.Parsed.{parsed_by, parsed_symbols}
use Rattle.asm_parse.specs.Private.Parsing.{reading, start}
use Rattle.asm_parse.proofs.Completeness.{complete}
use Rattle.asm_parse.proofs.Soundness.{sound}
use Rattle.asm_parse.proofs.Readers.{unread}

abbrev Answer : Type 0
Answer = Result (List (Item Operand)) ExprFault

shallow : (phrase : Phrase) → depth phrase ≤ 32 → parsed_by (Some phrase) ≡ Ok (postfix (expression phrase))
shallow phrase h = cond-false (nat_lt 32 (depth phrase)) _ _ (le-ltb 32 (depth phrase) h)

deep : (phrase : Phrase) → 32 < depth phrase → parsed_by (Some phrase) ≡ Err ExprFault.TooDeep
deep phrase h = cond-true (nat_lt 32 (depth phrase)) _ _ (lt-ltb 32 (depth phrase) h)

spelled_by : (symbols : List GrammarSymbol) (phrase : Phrase) → SpellsPhrase symbols phrase → IsParsed symbols (parsed_by (Some phrase))
spelled_by symbols phrase s =
    elim (cases_lt 32 (depth phrase)) [
      | inl far ↦ subst (IsParsed symbols) (sym (deep phrase far)) (phrase, s, far)
      | inr near ↦ subst (IsParsed symbols) (sym (shallow phrase near)) (phrase, s, near, refl)
    ]

is_parsed_by : (symbols : List GrammarSymbol) (read : Option Phrase) → reading symbols start ≡ read → IsParsed symbols (parsed_by read)
is_parsed_by symbols None e = unread symbols e
is_parsed_by symbols (Some phrase) e = spelled_by symbols phrase (sound symbols phrase e)

pub is_parsed : (symbols : List GrammarSymbol) → IsParsed symbols (parsed_symbols symbols)
is_parsed symbols = is_parsed_by symbols (reading symbols start) refl

none_read : (symbols : List GrammarSymbol) (read : Option Phrase) → reading symbols start ≡ read → ((phrase : Phrase) → SpellsPhrase symbols phrase → ⊥) → parsed_by read ≡ Err ExprFault.Syntax
none_read symbols None e none = refl
none_read symbols (Some phrase) e none = absurd (none phrase (sound symbols phrase e))

pub only_parsed : (symbols : List GrammarSymbol) (answer : Answer) → IsParsed symbols answer → (answer ≡ parsed_symbols symbols) ⊎ (answer ≡ Err ExprFault.NoMemory)
only_parsed symbols (Ok items) p = inl (sym (ap parsed_by (complete symbols p.0 p.1) ∙ shallow p.0 p.2 ∙ ap (λ x. Ok x) (sym p.3)))
only_parsed symbols (Err ExprFault.Syntax) none = inl (sym (none_read symbols (reading symbols start) refl none))
only_parsed symbols (Err ExprFault.TooDeep) p = inl (sym (ap parsed_by (complete symbols p.0 p.1) ∙ deep p.0 p.2))
only_parsed symbols (Err ExprFault.NoMemory) p = inr refl
only_parsed symbols (Err ExprFault.DivideByZero) p = absurd p
only_parsed symbols (Err ExprFault.LabelDivisor) p = absurd p
only_parsed symbols (Err ExprFault.TooLarge) p = absurd p
