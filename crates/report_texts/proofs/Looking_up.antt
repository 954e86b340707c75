-- Errors that are looked up among those of the front.
use Rattle.std.proofs.Common.{◌≡◌, ◌∙◌, ◌||◌, ◌&&◌, ◌==◌, sym, ap, refl, Bool, true, false, cond, if◌then◌else◌, List, [], ◌∷◌, ◌++◌, map}
use Rattle.std.specs.List.{list_any}
use Rattle.std.specs.Str.{bytes_eq}
use Rattle.std.proofs.Math.Bool.{or-false}
use Rattle.std.proofs.lemmas.Bool.{and_parts, eqb-true}
use Rattle.std.proofs.lemmas.List.{map-append}
use Rattle.std.proofs.lemmas.List.Folds.{list_any-append}
use Rattle.std.proofs.lemmas.Slice.Eq.{bytes_eq-Decides}
use Rattle.report_texts.specs.Repeats.{FrontError, is_same}

pub any_map : {X Y : Type 0} (p : Y → Bool) (f : X → Y) (xs : List X) → list_any p (map f xs) ≡ list_any (λ x. p (f x)) xs
any_map p f [] = refl
any_map p f (x ∷ xs) = ap (λ b. p (f x) || b) (any_map p f xs)

-- equal fields make one error
same_is : (e other : FrontError) → is_same e other ≡ true → e ≡ other
same_is e other same =
    let parts = and_parts (e.line == other.line) (bytes_eq e.name other.name && bytes_eq e.text other.text) same in
    let texts = and_parts (bytes_eq e.name other.name) (bytes_eq e.text other.text) parts.1 in
    let line : e.line ≡ other.line = eqb-true e.line other.line parts.0 in
    let name : e.name ≡ other.name = (bytes_eq-Decides e.name other.name).0 texts.0 in
    let text : e.text ≡ other.text = (bytes_eq-Decides e.text other.text).0 texts.1 in
    rw (line, name, text) refl

found_same : (q x : FrontError) (es : List FrontError) → list_any (is_same x) es ≡ true → list_any (is_same q) es ≡ (list_any (is_same q) es || is_same q x)
found_same q x es there =
    elim (is_same q x) as (λ b. is_same q x ≡ b → list_any (is_same q) es ≡ (list_any (is_same q) es || b)) [
      | true ↦ λ same.
          let is : list_any (is_same q) es ≡ true = ap (λ e. list_any (is_same e) es) (same_is q x same) ∙ there in
          rw is refl
      | false ↦ λ other. sym (or-false (list_any (is_same q) es))
    ] refl

-- whether an error is found once another one was inserted, if that was not there
pub found_more : {X : Type 0} (v : X → FrontError) (q : FrontError) (x : X) (es : List X)
    → list_any (is_same q) (map v (if list_any (λ e. is_same (v x) (v e)) es then es else es ++ x ∷ [])) ≡ (list_any (is_same q) (map v es) || is_same q (v x))
found_more v q x es =
    elim (list_any (λ e. is_same (v x) (v e)) es) as (λ b. list_any (λ e. is_same (v x) (v e)) es ≡ b → list_any (is_same q) (map v (cond b es (es ++ x ∷ []))) ≡ (list_any (is_same q) (map v es) || is_same q (v x))) [
      | true ↦ λ there. found_same q (v x) (map v es) (any_map (is_same (v x)) v es ∙ there)
      | false ↦ λ new. ap (list_any (is_same q)) (map-append v es (x ∷ [])) ∙ list_any-append (is_same q) (map v es) (v x ∷ []) ∙ ap (λ b. list_any (is_same q) (map v es) || b) (or-false (is_same q (v x)))
    ] refl
