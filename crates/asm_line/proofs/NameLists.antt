-- Names separated by commas, read from left to right.
use Rattle.std.specs.Prelude.{◌≡◌, ◌<◌, ◌+◌, ℕ, List, [], ◌∷◌, ◌++◌, true, false, Option, Some, None, length, drop, refl, ◌&&◌, if◌then◌else◌}
use Rattle.std.specs.Option.{option_map}
use Rattle.std.proofs.Common.{get_or, append_assoc, sym, ◌∙◌, ap, arith}
use Rattle.std.proofs.lemmas.List.{at_drop_more}
use Rattle.asm_line.specs.declared.token.Token.{Token}
use Rattle.asm_line.specs.Tokens.{Lexeme, lexeme, lexemes}
use Rattle.common.specs.Words.{upper}
use Rattle.asm_line.specs.Single.{is_name, is_comma}
use Rattle.asm_line.specs.Lists.{name_list}

-- no list of names begins with something else
first_is_name : (t : Lexeme) (ts : List Lexeme) → is_name t ≡ false → name_list (t ∷ ts) ≡ None
first_is_name t [] e = rw e refl
first_is_name t (u ∷ us) e = rw e refl

second_is_comma : (t u : Lexeme) (ts : List Lexeme) → is_comma u ≡ false → name_list (t ∷ u ∷ ts) ≡ None
second_is_comma t u ts e = elim (is_name t) as (λ b. (if b && is_comma u then option_map (λ ns. upper t.text ∷ ns) (name_list ts) else None) ≡ None) [ true ↦ rw e refl | false ↦ refl ]

pub no_name : (before : List (List ℕ)) (tokens : List Token) (k : ℕ) (d : Token) → k < length tokens → is_name (lexeme (get_or tokens k d)) ≡ false → option_map (λ ns. before ++ ns) (name_list (lexemes (drop k tokens))) ≡ None
no_name before tokens k d h e =
    ap (λ r. option_map (λ ns. before ++ ns) r) (at_drop_more (λ ts. name_list (lexemes ts)) tokens k d h ∙ first_is_name (lexeme (get_or tokens k d)) (lexemes (drop (k + 1) tokens)) e)

pub no_comma : (before : List (List ℕ)) (tokens : List Token) (k : ℕ) (d : Token) → k + 1 < length tokens → is_comma (lexeme (get_or tokens (k + 1) d)) ≡ false → option_map (λ ns. before ++ ns) (name_list (lexemes (drop k tokens))) ≡ None
no_comma before tokens k d h e =
    ap (λ r. option_map (λ ns. before ++ ns) r) (at_drop_more (λ ts. name_list (lexemes ts)) tokens k d (omega arith)
    ∙ at_drop_more (λ ts. name_list (lexeme (get_or tokens k d) ∷ lexemes ts)) tokens (k + 1) d h
    ∙ second_is_comma (lexeme (get_or tokens k d)) (lexeme (get_or tokens (k + 1) d)) (lexemes (drop (k + 1 + 1) tokens)) e)

begun : (t u : Lexeme) (ts : List Lexeme) → is_name t ≡ true → is_comma u ≡ true → name_list (t ∷ u ∷ ts) ≡ option_map (λ ns. upper t.text ∷ ns) (name_list ts)
begun t u ts p q = rw (p, q) refl

gathered : (before now : List (List ℕ)) (name : List ℕ) (rest : Option (List (List ℕ))) → now ≡ before ++ name ∷ [] → option_map (λ ns. before ++ ns) (option_map (λ ns. name ∷ ns) rest) ≡ option_map (λ ns. now ++ ns) rest
gathered before now name None e = refl
gathered before now name (Some ns) e = ap Some (sym (append_assoc before (name ∷ []) ns) ∙ ap (λ x. x ++ ns) (sym e))

-- after a name and a comma are read
pub goes_on : (before now : List (List ℕ)) (tokens : List Token) (k : ℕ) (d : Token) → k + 1 < length tokens → is_name (lexeme (get_or tokens k d)) ≡ true → is_comma (lexeme (get_or tokens (k + 1) d)) ≡ true → now ≡ before ++ upper (get_or tokens k d).text.now ∷ [] → option_map (λ ns. before ++ ns) (name_list (lexemes (drop k tokens))) ≡ option_map (λ ns. now ++ ns) (name_list (lexemes (drop (k + 2) tokens)))
goes_on before now tokens k d h p q e =
    let two : k + 1 + 1 ≡ k + 2 = omega arith in
    ap (λ r. option_map (λ ns. before ++ ns) r) (at_drop_more (λ ts. name_list (lexemes ts)) tokens k d (omega arith)
    ∙ at_drop_more (λ ts. name_list (lexeme (get_or tokens k d) ∷ lexemes ts)) tokens (k + 1) d h
    ∙ begun (lexeme (get_or tokens k d)) (lexeme (get_or tokens (k + 1) d)) (lexemes (drop (k + 1 + 1) tokens)) p q)
    ∙ gathered before now (upper (get_or tokens k d).text.now) (name_list (lexemes (drop (k + 1 + 1) tokens))) e
    ∙ ap (λ n. option_map (λ ns. now ++ ns) (name_list (lexemes (drop n tokens)))) two
