-- Lists of names that note the same lines.
use Rattle.std.proofs.Common.{◌≡◌, ◌∙◌, ◌++◌, ◌∷◌, [], ℕ, List, true, false, Option, Some, None, refl, sym, ap, cond, inl, inr, append_assoc}
use Rattle.std.specs.Map.{lookup}
use Rattle.std.specs.Option.{option_or}
use Rattle.std.specs.Str.{bytes_eq}
use Rattle.std.proofs.lemmas.Bool.{cases_Bool}
use Rattle.std.proofs.lemmas.Slice.Eq.{bytes_eq-Decides}
use Rattle.source_warnings.specs.Noted.{Noted, first_noted}
use Rattle.source_warnings.specs.Private.Known.{Agrees}
use Rattle.source_warnings.specs.Warnings.{SourceWarning, each_said}

-- the first line of a name in two lists, one after the other
first-append : (one other : Noted) (name : List ℕ) → first_noted (one ++ other) name ≡ option_or (first_noted one name) (first_noted other name)
first-append [] other name = refl
first-append (d ∷ ds) other name =
    elim (bytes_eq name d.0) as (λ b. cond b (Some d.1) (lookup (bytes_eq name) (ds ++ other)) ≡ option_or (cond b (Some d.1) (lookup (bytes_eq name) ds)) (first_noted other name)) [
      | true ↦ refl
      | false ↦ first-append ds other name
    ]

pub agrees-more : (one other more : Noted) → Agrees one other → Agrees (one ++ more) (other ++ more)
agrees-more one other more same name = first-append one more name ∙ ap (λ o. option_or o (first_noted more name)) (same name) ∙ sym (first-append other more name)

or_none : (o : Option ℕ) → option_or o None ≡ o
or_none None = refl
or_none (Some n) = refl

-- a name that is noted already adds nothing
pub agrees-known : (noted : Noted) (name : List ℕ) (number first : ℕ) → first_noted noted name ≡ Some first → Agrees noted (noted ++ (name, number) ∷ [])
agrees-known noted name number first known q =
    elim (cases_Bool (bytes_eq q name)) [
      | inl is ↦ (let e : q ≡ name = (bytes_eq-Decides q name).0 is in
          let there : first_noted noted q ≡ Some first = ap (first_noted noted) e ∙ known in
          rw (first-append noted ((name, number) ∷ []) q, there) refl)
      | inr other_name ↦ (let none : first_noted ((name, number) ∷ []) q ≡ None = rw other_name refl in
          sym (first-append noted ((name, number) ∷ []) q ∙ (ap (option_or (first_noted noted q)) none ∙ or_none _)))
    ]

-- some more names after those that are left
pub agrees-step : (old new one more all : Noted) → Agrees new (old ++ one) → Agrees (old ++ (one ++ more)) all → Agrees (new ++ more) all
agrees-step old new one more all step rest name = agrees-more new (old ++ one) more step name ∙ (ap (λ l. first_noted l name) (append_assoc old one more) ∙ rest name)

-- the warnings about names depend only on what is noted
pub each-agrees : (says : List ℕ → Option ℕ → List SourceWarning) (number : ℕ) (one other : Noted) → Agrees one other → (names : List (List ℕ)) → each_said says number one names ≡ each_said says number other names
each-agrees says number one other same [] = refl
each-agrees says number one other same (name ∷ names) = rw (same name, each-agrees says number (one ++ (name, number) ∷ []) (other ++ (name, number) ∷ []) (agrees-more one other _ same) names) refl
