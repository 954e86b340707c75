-- A line has one list of tokens, so a place that is one of those that were found is one of those that it has.
use Rattle.std.proofs.Common.{◌≡◌, ◌<◌, ℕ, List, Result, Ok, Err, Vec, Global, sym, subst, ◌∙◌, ap, length, arith, ◌⊎◌, inl, inr}
use Rattle.std.proofs.lemmas.List.{length-map}
use Rattle.asm_line.specs.declared.fault.ScanFault.{ScanFault}
use Rattle.asm_line.specs.declared.token.Token.{Token}
use Rattle.asm_line.specs.Tokens.{Lexeme, answered_tokens, lexeme, lexemes}
use Rattle.asm_line.specs.Scanned.{scanned}
use Rattle.message_texts.specs.declared.parts.Place.{Place}
use Rattle.message_texts.specs.Places.{CoversTokens}

-- the tokens that were found are those that the line has
found_is : (line : List ℕ) (result : Result (Vec Token Global) ScanFault) (found : Vec Token Global) (cut : List Lexeme)
    → (answered_tokens result ≡ scanned line) ⊎ (result ≡ Err ScanFault.NoMemory)
    → result ≡ Ok found → scanned line ≡ Ok cut → cut ≡ lexemes found.items
found_is line result found cut answer is_ok is = elim answer as (λ _. cut ≡ lexemes found.items) [
  | inl p ↦ let q : answered_tokens (Ok found) ≡ scanned line = subst (λ (r : Result (Vec Token Global) ScanFault). answered_tokens r ≡ scanned line) is_ok p in cc
  | inr q ↦ absurd (cc)
]

-- a place that covers tokens that were found covers tokens that the line has
pub covers_cut : (line : List ℕ) (result : Result (Vec Token Global) ScanFault) (found : Vec Token Global) (tokens : List Token)
    (cut : List Lexeme) (place : Place)
    → (answered_tokens result ≡ scanned line) ⊎ (result ≡ Err ScanFault.NoMemory)
    → result ≡ Ok found
    → tokens ≡ found.items
    → (0 < length tokens → CoversTokens line (lexemes tokens) place)
    → scanned line ≡ Ok cut → 0 < length cut → CoversTokens line cut place
covers_cut line result found tokens cut place answer is_ok same covers is some =
    let e : cut ≡ lexemes tokens = found_is line result found cut answer is_ok is ∙ ap lexemes (sym same) in
    let n : length cut ≡ length tokens = ap length e ∙ length-map tokens lexeme in
    subst (λ (list : List Lexeme). CoversTokens line list place) (sym e) (covers (omega arith))
