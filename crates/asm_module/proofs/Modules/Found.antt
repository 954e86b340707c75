-- Settling the names finds a meaning for each name that is defined.
use Rattle.std.proofs.Common.{◌≡◌, ℕ, Bool, true, false, cond, List, [], ◌∷◌, Some, None, map, refl, sym, ◌∙◌}
use Rattle.std.specs.Map.{lookup}
use Rattle.std.specs.Str.{bytes_eq}
use Rattle.asm_expr.specs.declared.meaning.Meaning.{Meaning}
use Rattle.asm_expr.specs.Names.{found}
use Rattle.asm_names.specs.declared.kind.Kind.{Kind}
use Rattle.asm_names.specs.Lines.{Taken}
use Rattle.asm_names.specs.Names.{Names, kind_of_name}
use Rattle.asm_names.specs.declared.settling.SettledNames.{SettledNames}
use Rattle.asm_names.specs.Layout.{Layout}
use Rattle.asm_names.specs.Settles.{Settles}

none_there : (p : List ℕ → Bool) (f : List ℕ × Kind → Meaning) (names : Names) → lookup p (map (λ d. (d.0, f d)) names) ≡ None → lookup p names ≡ None
none_there p f [] is = refl
none_there p f ((name, k) ∷ names) is =
    elim (p name) as (λ b. cond b (Some (f (name, k))) (lookup p (map (λ d. (d.0, f d)) names)) ≡ None → cond b (Some k) (lookup p names) ≡ None) [
      | true ↦ λ bad. absurd cc
      | false ↦ λ none. none_there p f names none
    ] is

pub settled_found : (names : Names) (lines : List Taken) (circle : ℕ → Bool) (layout : Layout) (s : SettledNames) → Settles names lines circle layout s
    → (name : List ℕ) → found s.names name ≡ None → kind_of_name names name ≡ None
settled_found names lines circle layout s settles name none = none_there (bytes_eq name) _ names (sym (settles.found name) ∙ none)
