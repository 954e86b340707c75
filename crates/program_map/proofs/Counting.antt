-- How many jumps a map counts, by the shape of the program and the order of its certificate.
use Rattle.std.proofs.Common.{◌≡◌, ◌∙◌, ◌+◌, ◌-◌, ◌≤◌, ◌<◌, ℕ, zero, suc, Bool, true, false, cond, List, [], ◌∷◌, ◌++◌, Option, Some, None, drop, length, map, refl, ap, ap₂, sym, subst, arith, get_or, slice_index, take}
use Rattle.std.specs.Prelude.{count_by, filter}
use Rattle.std.specs.List.{enumerate_from, flat_map, sum_by}
use Rattle.std.specs.Option.{option_map}
use Rattle.std.proofs.lemmas.List.{length-map, map-append}
use Rattle.std.proofs.lemmas.List.Sums.{sum_by-append, sum_by-cons}
use Rattle.relax.specs.declared.shape.Statement.{Statement as Sized}
use Rattle.relax.specs.declared.shape.Statement.TheVariants as sized
use Rattle.zmo_object.specs.Modules as object
use Rattle.zmo_object.specs.Modules.{Module, ModuleStatement}
use Rattle.zlink.specs.File.Objects.{placed_shape, sized_by}
use Rattle.zlink.specs.Program.Parts.{ModulePart, Publics, all_publics, parts, parts_from}
use Rattle.zlink.specs.Program.Whole.{Placed, placed_statements, program, stands}
use Rattle.program_map.specs.declared.maps.kind.Kind.{Kind}
use Rattle.program_map.specs.Figures.{CountedStatement, counted_statement, is_relaxable_statement, relaxables}
use Rattle.program_map.specs.Map.{mapped_modules, mapped_part, summed}
use Rattle.program_map.specs.Mapped.{MappedModule}
use Rattle.program_map.specs.Sums.{is_sized_jump}

one_sized : (f : ℕ → ℕ) (s : ModuleStatement) → is_sized_jump (sized_by f s) ≡ is_relaxable_statement s
one_sized f (object.Bytes bytes holes) = refl
one_sized f (object.Jump marked condition target) = refl
one_sized f (object.Short branch target) = refl
one_sized f (object.Space size fill) = refl

pub count_cons : {X : Type 0} (p : X → Bool) (x : X) (xs : List X) → count_by p (x ∷ xs) ≡ cond (p x) 1 0 + count_by p xs
count_cons p x xs = sum_by-cons (λ y. cond (p y) 1 0) x xs

-- the jumps of a module are those of its part of the shape
module_jumps : (kinds : Option (List Kind)) (places : List ℕ) (first : ℕ) (f : ℕ → ℕ) (ss : List ModuleStatement)
    → relaxables (map (counted_statement kinds places) (enumerate_from first ss)) ≡ count_by is_sized_jump (map (λ (p : Placed). sized_by p.stands p.statement) (map (λ s. record { statement = s; stands = f }) ss))
module_jumps kinds places first f [] = refl
module_jumps kinds places first f (s ∷ ss) =
    count_cons (λ (c : CountedStatement). c.relaxable) (counted_statement kinds places (first, s)) (map (counted_statement kinds places) (enumerate_from (first + 1) ss))
    ∙ ap₂ (λ a b. cond a 1 0 + b) (sym (one_sized f s)) (module_jumps kinds places (first + 1) f ss)
    ∙ sym (count_cons is_sized_jump (sized_by f s) (map (λ (p : Placed). sized_by p.stands p.statement) (map (λ s. record { statement = s; stands = f }) ss)))

jumps_from : (kinds : Option (List Kind)) (places : List ℕ) (publics : Publics) (number base : ℕ) (ms : List Module)
    → sum_by (λ (m : MappedModule). m.figures.jumps) (map (mapped_part kinds places) (parts_from number base ms)) ≡ count_by is_sized_jump (placed_shape (flat_map (placed_statements publics) (parts_from number base ms)))
jumps_from kinds places publics number base [] = refl
jumps_from kinds places publics number base (m ∷ ms) =
    let p : ModulePart = record { number = number; base = base; holds = m } in
    let rest : List ModulePart = parts_from (number + 1) (base + length m.statements) ms in
    let own : List Placed = placed_statements publics p in
    let more : List Placed = flat_map (placed_statements publics) rest in
    sum_by-cons (λ (m : MappedModule). m.figures.jumps) (mapped_part kinds places p) (map (mapped_part kinds places) rest)
    ∙ ap₂ (λ a b. a + b) (module_jumps (option_map (drop base) kinds) (drop base places) 0 (stands publics p) m.statements) (jumps_from kinds places publics (number + 1) (base + length m.statements) ms)
    ∙ sym (ap (count_by is_sized_jump) (map-append (λ (p : Placed). sized_by p.stands p.statement) own more) ∙ sum_by-append (λ s. cond (is_sized_jump s) 1 0) (placed_shape own) (placed_shape more))

pub jumps_counted : (kinds : Option (List Kind)) (places : List ℕ) (modules : List Module) → (summed (mapped_modules kinds places modules)).jumps ≡ count_by is_sized_jump (placed_shape (program modules))
jumps_counted kinds places modules = jumps_from kinds places (all_publics (parts modules)) 0 0 modules
