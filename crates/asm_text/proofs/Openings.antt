-- Opening the body of a macro, and the arguments of its call.
use Rattle.std.proofs.Common.{◌≡◌, ◌<◌, ◌+◌, ◌-◌, ◌∙◌, sym, ap, refl, ℕ, suc, List, [], ◌∷◌, ◌++◌, Option, Some, None, Vec, take, drop, length, get_or, arith, append_assoc, append-nil}
use Rattle.std.specs.Global.{Global}
use Rattle.std.proofs.lemmas.List.{drop_more}
use Rattle.asm_line.specs.Tokens.{Lexeme}
use Rattle.asm_line.specs.Replacing.Pieces.{after_first_token, behind_all}
use Rattle.asm_line.specs.Replacing.Views as replaced
use Rattle.asm_text.specs.declared.span.Span.{Span}
use Rattle.asm_text.specs.declared.open.Local.{Local}
use Rattle.asm_text.specs.Calls.{Opened, opened, with_locals}
use Rattle.asm_text.specs.Private.Openings.{IsLocal}
use Rattle.asm_text.specs.Prepared.{body_texts}

body_step : (all : List (List ℕ)) (s : Span) → s.at < s.end → s.at < length all → body_texts all s ≡ get_or all s.at [] ∷ body_texts all (record s { at = s.at + 1 })
body_step all s h k =
    let more : s.end - s.at ≡ suc (s.end - (s.at + 1)) = omega arith in
    ap (λ n. take n (drop s.at all)) more ∙ ap (λ ts. take (suc (s.end - (s.at + 1))) ts) (drop_more all s.at [] k)

pub opened_bad : (all : List (List ℕ)) (body s : Span) (locals : List (List ℕ)) → opened (body_texts all body) ≡ with_locals (Some locals) (opened (body_texts all s)) → s.at < s.end → s.at < length all
    → IsLocal (get_or all s.at []) Local.Bad → None ≡ opened (body_texts all body)
opened_bad all body s locals i h k bad =
    sym (i ∙ ap (λ ts. with_locals (Some locals) (opened ts)) (body_step all s h k) ∙ ap (with_locals (Some locals)) (bad (body_texts all (record s { at = s.at + 1 }))))

pub opened_other : (all : List (List ℕ)) (body s : Span) (locals : List (List ℕ)) → opened (body_texts all body) ≡ with_locals (Some locals) (opened (body_texts all s)) → s.at < s.end → s.at < length all
    → IsLocal (get_or all s.at []) Local.Other → Some (record { locals = locals; lines = body_texts all s }) ≡ opened (body_texts all body)
opened_other all body s locals i h k other =
    sym (i ∙ ap (λ ts. with_locals (Some locals) (opened ts)) (body_step all s h k) ∙ ap (with_locals (Some locals)) (other (body_texts all (record s { at = s.at + 1 })))
    ∙ ap (λ ls. Some (record { locals = ls; lines = get_or all s.at [] ∷ body_texts all (record s { at = s.at + 1 }) })) (append-nil locals)
    ∙ ap (λ ts. Some (record { locals = locals; lines = ts })) (sym (body_step all s h k)))

joined : (a b : List (List ℕ)) (o : Option Opened) → with_locals (Some a) (with_locals (Some b) o) ≡ with_locals (Some (a ++ b)) o
joined a b None = refl
joined a b (Some o) = ap (λ ls. Some (record o { locals = ls })) (sym (append_assoc a b o.locals))

pub opened_names : (all : List (List ℕ)) (body s : Span) (locals : List (List ℕ)) (names : Vec (Vec ℕ Global) Global) (now : List (List ℕ)) → opened (body_texts all body) ≡ with_locals (Some locals) (opened (body_texts all s))
    → s.at < s.end → s.at < length all → IsLocal (get_or all s.at []) (Local.Names names) → now ≡ locals ++ replaced.texts names.items
    → opened (body_texts all body) ≡ with_locals (Some now) (opened (body_texts all (record s { at = s.at + 1 })))
opened_names all body s locals names now i h k some e =
    i ∙ ap (λ ts. with_locals (Some locals) (opened ts)) (body_step all s h k) ∙ ap (with_locals (Some locals)) (some (body_texts all (record s { at = s.at + 1 })))
    ∙ joined locals (replaced.texts names.items) (opened (body_texts all (record s { at = s.at + 1 }))) ∙ ap (λ ls. with_locals (Some ls) (opened (body_texts all (record s { at = s.at + 1 })))) (sym e)

-- the line after one token more
pub behind_step : (line : List ℕ) (tokens : List Lexeme) (count at : ℕ) (token : Lexeme) (e : Lexeme) → at < count → at < length tokens → get_or tokens at e ≡ token
    → behind_all line (take (count - at) (drop at tokens)) ≡ behind_all (after_first_token line token) (take (count - (at + 1)) (drop (at + 1) tokens))
behind_step line tokens count at token d h k e =
    let more : count - at ≡ suc (count - (at + 1)) = omega arith in
    ap (λ n. behind_all line (take n (drop at tokens))) more ∙ ap (λ ts. behind_all line (take (suc (count - (at + 1))) ts)) (drop_more tokens at d k)
    ∙ ap (λ t. behind_all (after_first_token line t) (take (count - (at + 1)) (drop (at + 1) tokens))) e
