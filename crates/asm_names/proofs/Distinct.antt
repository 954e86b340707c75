-- No two names are equal.
use Rattle.std.proofs.Common.{◌≡◌, ◌∙◌, sym, ap, refl, subst, ℕ, Bool, true, false, cond, List, [], ◌∷◌, ◌++◌, Option, Some, None, map}
use Rattle.std.specs.Prelude.{is_some}
use Rattle.std.specs.List.{AllByRecursion, IsDistinct, fold}
use Rattle.std.specs.Map.{lookup}
use Rattle.std.specs.Str.{bytes_eq}
use Rattle.std.proofs.lemmas.List.{map-append}
use Rattle.std.proofs.lemmas.Map.{NonePasses, none_passes_from_lookup}
use Rattle.std.proofs.lemmas.Slice.Eq.{bytes_eq-Decides}
use Rattle.asm_names.specs.declared.kind.Kind.{Kind}
use Rattle.asm_names.specs.Lines.{Taken}
use Rattle.asm_names.specs.Names.{Names, definitions, kind_of_name, names, with_name, with_names}

abbrev Key : Type 0
Key = List ℕ

not_true : (b : Bool) → (b ≡ true → ⊥) → b ≡ false
not_true true no_way = absurd (no_way refl)
not_true false no_way = refl

-- If x differs from y, y differs from x.
differ_back : (x y : Key) → bytes_eq x y ≡ false → bytes_eq y x ≡ false
differ_back x y e = not_true (bytes_eq y x) (λ same. let back : bytes_eq x y ≡ true = (bytes_eq-Decides x y).1 (sym ((bytes_eq-Decides y x).0 same)) in cc)

abbrev keys : Names → List Key
keys names = map (λ d. d.0) names

all_behind : (P : Key → Type 0) (xs : List Key) (y : Key) → AllByRecursion P xs → P y → AllByRecursion P (xs ++ y ∷ [])
all_behind P [] y all last = (last, tt)
all_behind P (x ∷ xs) y all last = (all.0, all_behind P xs y all.1 last)

none_keys : (name : Key) (names : Names) → NonePasses (bytes_eq name) names → AllByRecursion (λ k. bytes_eq k name ≡ false) (keys names)
none_keys name [] none = tt
none_keys name (d ∷ ds) none = (differ_back name d.0 none.0, none_keys name ds none.1)

distinct_behind : (xs : List Key) (y : Key) → IsDistinct bytes_eq xs → AllByRecursion (λ k. bytes_eq k y ≡ false) xs → IsDistinct bytes_eq (xs ++ y ∷ [])
unfolding IsDistinct
distinct_behind [] y d none = (tt, tt)
distinct_behind (x ∷ xs) y d none = (all_behind (λ k. bytes_eq x k ≡ false) xs y d.0 none.0, distinct_behind xs y d.1 none.1)

one_more : (names : Names) (d : Key × Kind) → IsDistinct bytes_eq (keys names) → IsDistinct bytes_eq (keys (with_name names d))
one_more names d was =
    elim (kind_of_name names d.0) as (λ k. kind_of_name names d.0 ≡ k → IsDistinct bytes_eq (keys (cond (is_some k) names (names ++ d ∷ [])))) [
      | Some kind ↦ λ is. was
      | None ↦ λ is. subst (IsDistinct bytes_eq) (sym (map-append (λ e. e.0) names (d ∷ [])))
          (distinct_behind (keys names) d.0 was (none_keys d.0 names (none_passes_from_lookup (bytes_eq d.0) names is)))
    ] refl

all_more : (names more : Names) → IsDistinct bytes_eq (keys names) → IsDistinct bytes_eq (keys (with_names names more))
all_more names [] was = was
all_more names (d ∷ ds) was = all_more (with_name names d) ds (one_more names d was)

no_names : IsDistinct bytes_eq []
unfolding IsDistinct
no_names = tt

pub distinct_names : (lines : List Taken) → IsDistinct bytes_eq (map (λ d. d.0) (names lines))
distinct_names lines = all_more [] (definitions lines) no_names
