-- The addresses of statements ascend.
use Rattle.std.proofs.Common.{◌≡◌, ◌∙◌, ◌+◌, ◌≤◌, ◌<◌, ◌⊎◌, inl, inr, ℕ, zero, suc, Bool, List, [], ◌∷◌, ◌++◌, Option, Some, None, length, map, refl, ap, sym, subst, arith, get_or, slice_index, add-one}
use Rattle.common.specs.declared.limits.TheConstants.{FIRST_PLACE}
use Rattle.relax.specs.declared.shape.Statement.{Statement}
use Rattle.relax.specs.Choice.{Choice, bytes_before, place, size_at, total}
use Rattle.zlink.specs.File.Places.{ArePlaces}
use Rattle.std.specs.List.{enumerate_from}
use Rattle.std.proofs.lemmas.List.{get_or-append-add, get_or_append_left, length-append, length-map}
use Rattle.std.proofs.lemmas.List.FromFn.{length-enumerate_from}
use Rattle.relax.specs.Growth.{after}
use Rattle.zlink.specs.Built.{IsBuiltFile, Origin, lines_of_statements, origin_of, origins_by}
use Rattle.zlink.specs.Reads.{shape, sized_as}
use Rattle.zlink.specs.File.Objects.{placed_shape, sized_by}
use Rattle.zlink.specs.Program.Laws.{statement_count}
use Rattle.zlink.specs.Program.Whole.{program}
use Rattle.zlink.specs.Sources.{Assembly, modules_of, program_of}
use Rattle.zmo_object.specs.Modules.{Module}
use Rattle.zlink.specs.declared.building.Built.{Built}
use Rattle.zlink.specs.declared.origins.Origin as origin
use Rattle.program_map.specs.Figures.{Ascend}
use Rattle.program_map.specs.Programs.{built_places}

next_before : (c : Choice) (shape : List Statement) (k : ℕ) → bytes_before c shape (k + 1) ≡ bytes_before c shape k + size_at c shape k
unfolding bytes_before
next_before c shape k = rw add-one refl

pub next_place : (c : Choice) (shape : List Statement) (k : ℕ) → place c shape (k + 1) ≡ place c shape k + size_at c shape k
next_place c shape k = omega (arith, next_before c shape k)

pub first_place : (c : Choice) (shape : List Statement) → place c shape 0 ≡ FIRST_PLACE
unfolding bytes_before
first_place c shape = omega arith

pub places_ascend : (c : Choice) (shape : List Statement) (places : List ℕ) → ArePlaces c shape places → Ascend places
places_ascend c shape places are k h =
    let here = are.each k (omega (arith, are.len)) in
    let there = are.each (k + 1) (omega (arith, are.len)) in
    omega (arith, next_place c shape k)

origins_at : (f : ℕ → ℕ) (first : ℕ) (lines : List (ℕ × ℕ)) (k : ℕ) → k < length lines → slice_index (map (λ (o : Origin). o.place) (map (λ l. record { place = f l.0; source = l.1.0; line = l.1.1 }) (enumerate_from first lines))) k ≡ f (first + k)
origins_at f first [] k h = absurd (omega arith)
origins_at f first (l ∷ lines) zero h = ap f (omega arith)
origins_at f first (l ∷ lines) (suc k) h = origins_at f (first + 1) lines k (omega arith) ∙ ap f (omega arith)

place_of_origins : (os : List origin.Origin) → map (λ o. o.place) os ≡ map (λ (o : Origin). o.place) (map origin_of os)
place_of_origins [] = refl
place_of_origins (o ∷ os) = ap (λ ps. o.place ∷ ps) (place_of_origins os)

split_at : (k n : ℕ) → k ≤ n → (k < n) ⊎ (k ≡ n)
split_at k n h = grind arith

pub built_are_places : (assemblies : List Assembly) (order : List ℕ) (b : Built) → IsBuiltFile assemblies order b → ArePlaces (after order) (shape (program_of assemblies)) (built_places b)
built_are_places assemblies order b file =
    let c = after order in
    let sized = shape (program_of assemblies) in
    let lines = lines_of_statements assemblies in
    let fronts : map (λ o. o.place) b.statements.items ≡ map (λ (o : Origin). o.place) (origins_by (place c sized) lines) = place_of_origins b.statements.items ∙ ap (map (λ (o : Origin). o.place)) file.statements in
    let count : length sized ≡ length lines = length-map (program_of assemblies) sized_as ∙ sym file.each in
    let long : length (map (λ o. o.place) b.statements.items) ≡ length lines =
    ap length fronts ∙ length-map (origins_by (place c sized) lines) (λ (o : Origin). o.place) ∙ length-map (enumerate_from 0 lines) _ ∙ length-enumerate_from 0 lines in
    let end : FIRST_PLACE + length b.com.items ≡ place c sized (length sized) = ap (λ n. FIRST_PLACE + n) file.reads.length_is in
    record {
      len = length-append (map (λ o. o.place) b.statements.items) ((FIRST_PLACE + length b.com.items) ∷ []) ∙ (omega arith);
      each = λ k h. elim (split_at k (length lines) (omega arith)) [
        | inl lt ↦ get_or_append_left (map (λ o. o.place) b.statements.items) _ 0 k (omega arith) ∙ ap (λ ps. slice_index ps k) fronts ∙ origins_at (place c sized) 0 lines k lt ∙ ap (place c sized) (omega arith)
        | inr e ↦ ap (slice_index (built_places b)) (omega (arith, e)) ∙ get_or-append-add (map (λ o. o.place) b.statements.items) ((FIRST_PLACE + length b.com.items) ∷ []) 0 0 ∙ end ∙ ap (place c sized) (omega (arith, e))
      ];
    }

-- the program of sources has as many statements as their modules
pub same_count : ((modules : List Module) → length (program modules) ≡ statement_count modules) → (assemblies : List Assembly) → placed_shape (program (modules_of assemblies)) ≡ shape (program_of assemblies)
    → length (program_of assemblies) ≡ statement_count (modules_of assemblies)
same_count count assemblies e =
    sym (length-map (program_of assemblies) sized_as) ∙ ap length (sym e) ∙ length-map (program (modules_of assemblies)) (λ p. sized_by p.stands p.statement) ∙ count (modules_of assemblies)
