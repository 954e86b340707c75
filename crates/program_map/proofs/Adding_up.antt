-- The figures of a map add up.
use Rattle.std.proofs.Common.{◌≡◌, ◌∙◌, ◌+◌, ◌≤◌, ◌<◌, ◌⊎◌, inl, inr, ℕ, zero, suc, Bool, true, false, cond, List, [], ◌∷◌, Option, Some, None, drop, length, map, refl, ap, sym, subst, arith, get_or, slice_index, length-drop}
use Rattle.std.specs.Prelude.{All, slice_get}
use Rattle.std.specs.Option.{option_map, option_map_or}
use Rattle.std.proofs.lemmas.List.{get_or-drop, length-map}
use Rattle.std.proofs.lemmas.List.Elements.{All-head, All-map, All-tail}
use Rattle.std.proofs.lemmas.Option.{slice_get-get_or, slice_get-map, slice_get_within}
use Rattle.common.specs.declared.limits.TheConstants.{FIRST_PLACE}
use Rattle.relax.specs.declared.shape.Statement.{Statement as Sized}
use Rattle.relax.specs.Choice.{Choice, place, size_at, size_of, total}
use Rattle.zmo_object.specs.Modules as object
use Rattle.zmo_object.specs.Modules.{Module, ModuleStatement}
use Rattle.zlink.specs.File.Objects.{placed_shape, sized_by}
use Rattle.zlink.specs.File.Places.{ArePlaces}
use Rattle.zlink.specs.Program.Laws.{statement_count}
use Rattle.zlink.specs.Program.Parts.{ModulePart, all_publics, parts, parts_from}
use Rattle.zlink.specs.Program.Whole.{Placed, program, stands}
use Rattle.program_map.specs.declared.maps.figures.Figures.{Figures}
use Rattle.program_map.specs.declared.maps.kind.Kind.{Kind}
use Rattle.program_map.specs.Figures.{Ascend, is_relaxable_statement}
use Rattle.program_map.specs.Map.{mapped_modules, mapped_part, program_map, summed}
use Rattle.program_map.specs.Mapped.{MappedModule}
use Rattle.program_map.specs.Sums.{AddsUp, figure_bytes}
use Rattle.program_map.proofs.Parting.{count_front, summed_cons}
use Rattle.program_map.proofs.Placing.{next_place, first_place, places_ascend}
use Rattle.program_map.proofs.Summing.{AreSizedJumps, whole}

-- a part ends within the statements of all modules
part_within : (number base : ℕ) (ms : List Module) (m : ℕ) (p : ModulePart) → slice_get (parts_from number base ms) m ≡ Some p → p.base + length p.holds.statements ≤ base + statement_count ms
part_within number base [] m p e = absurd cc
part_within number base (x ∷ ms) zero p e =
    let same : record { number = number; base = base; holds = x } ≡ p = cc in
    let b = ap (λ (p : ModulePart). p.base + length p.holds.statements) same in
    omega (arith, count_front x ms)
part_within number base (x ∷ ms) (suc m) p e = (let more = part_within (number + 1) (base + length x.statements) ms m p e in omega (arith, count_front x ms))

-- a relaxable jump has two bytes or three
jump_size : (f : ℕ → ℕ) (s : ModuleStatement) (long : Bool) → is_relaxable_statement s ≡ true → (size_of long (sized_by f s) ≡ 2) ⊎ (size_of long (sized_by f s) ≡ 3)
jump_size f (object.Jump marked condition target) true e = inr refl
jump_size f (object.Jump marked condition target) false e = inl refl
jump_size f (object.Bytes bytes holes) long e = absurd cc
jump_size f (object.Short branch target) long e = absurd cc
jump_size f (object.Space size fill) long e = absurd cc

-- The law about the statements of a program that is used here.
abbrev pub LaysOut : Type 0
LaysOut = (modules : List Module) (m i : ℕ) (p : ModulePart) (s : ModuleStatement) → slice_get (parts modules) m ≡ Some p → slice_get p.holds.statements i ≡ Some s
    → slice_get (program modules) (p.base + i) ≡ Some (record { statement = s; stands = stands (all_publics (parts modules)) p })

abbrev pub Counts : Type 0
Counts = (modules : List Module) → length (program modules) ≡ statement_count modules

module _ (lays : LaysOut) (counts : Counts) (kinds : Option (List Kind)) (places : List ℕ) (modules : List Module) (c : Choice) (are : ArePlaces c (placed_shape (program modules)) places) where
  shape_long : length (placed_shape (program modules)) ≡ statement_count modules
  shape_long = length-map (program modules) (λ p. sized_by p.stands p.statement) ∙ counts modules

  ascend_from : (base : ℕ) → Ascend (drop base places)
  ascend_from base k h =
      let up = places_ascend c (placed_shape (program modules)) places are (base + k) (omega (arith, length-drop base places)) in
      let next : slice_index places (base + k + 1) ≡ slice_index places (base + (k + 1)) = ap (slice_index places) (omega arith) in
      rw (get_or-drop base places k 0, get_or-drop base places (k + 1) 0) (omega arith)

  sized_jumps : (m : ℕ) (p : ModulePart) → slice_get (parts modules) m ≡ Some p → AreSizedJumps (drop p.base places) p.holds.statements
  sized_jumps m p is i d lt relaxable =
      let s : ModuleStatement = get_or p.holds.statements i d in
      let there = lays modules m i p s is (slice_get-get_or p.holds.statements i d lt) in
      let k : ℕ = p.base + i in
      let within = slice_get_within (program modules) k _ there in
      let size : size_at c (placed_shape (program modules)) k ≡ size_of (c k) (sized_by (stands (all_publics (parts modules)) p) s) =
      ap (λ o. option_map_or (size_of (c k)) o 0) (slice_get-map (λ (p : Placed). sized_by p.stands p.statement) (program modules) k ∙ ap (option_map (λ (p : Placed). sized_by p.stands p.statement)) there) in
      let here = are.each k (omega (arith, shape_long, counts modules)) in
      let after = are.each (k + 1) (omega (arith, shape_long, counts modules)) in
      let step = next_place c (placed_shape (program modules)) k in
      let next : slice_index places (p.base + (i + 1)) ≡ slice_index places (k + 1) = ap (slice_index places) (omega arith) in
      rw (get_or-drop p.base places i 0, get_or-drop p.base places (i + 1) 0)
      (elim (jump_size (stands (all_publics (parts modules)) p) s (c k) relaxable) [ inl two ↦ inl (omega arith) | inr three ↦ inr (omega arith) ])

  part_adds : (m : ℕ) (p : ModulePart) → slice_get (parts modules) m ≡ Some p → AddsUp (mapped_part kinds places p)
  part_adds m p is =
      let within = part_within 0 0 modules m p is in
      let all = whole (option_map (drop p.base) kinds) (drop p.base places) p.holds.statements (ascend_from p.base) (omega (arith, length-drop p.base places, are.len, shape_long)) (sized_jumps m p is) in
      record { bytes = all.bytes; jumps = all.jumps }

  pub all_add : All AddsUp (mapped_modules kinds places modules)
  all_add = All-map AddsUp (mapped_part kinds places) (parts modules) (λ k d lt. part_adds k (get_or (parts modules) k d) (slice_get-get_or (parts modules) k d lt))

  record Sums (base end : ℕ) (f : Figures) : Type 0 where
    pub bytes : slice_index places base + figure_bytes f ≡ slice_index places end
    pub jumps : f.jumps ≡ f.short + f.long

  sums_from : (number base : ℕ) (ms : List Module) → All AddsUp (map (mapped_part kinds places) (parts_from number base ms)) → Sums base (base + statement_count ms) (summed (map (mapped_part kinds places) (parts_from number base ms)))
  sums_from number base [] all = record { bytes = (let e : slice_index places base ≡ slice_index places (base + 0) = ap (slice_index places) (omega arith) in omega arith); jumps = refl }
  sums_from number base (m ∷ ms) all =
      let own : MappedModule = mapped_part kinds places (record { number = number; base = base; holds = m }) in
      let rest : List MappedModule = map (mapped_part kinds places) (parts_from (number + 1) (base + length m.statements) ms) in
      let first = All-head AddsUp own rest all in
      let more = sums_from (number + 1) (base + length m.statements) ms (All-tail AddsUp own rest all) in
      let own_bytes = rw (get_or-drop base places 0 0, get_or-drop base places (length m.statements) 0) at first.bytes in
      let begin : slice_index places (base + 0) ≡ slice_index places base = ap (slice_index places) (omega arith) in
      let count : slice_index places (base + length m.statements + statement_count ms) ≡ slice_index places (base + statement_count (m ∷ ms)) = ap (slice_index places) (omega (arith, count_front m ms)) in
      let own_jumps = first.jumps in
      let more_bytes = more.bytes in
      let more_jumps = more.jumps in
      subst (Sums base (base + statement_count (m ∷ ms))) (sym (summed_cons own rest)) (record { bytes = omega arith; jumps = omega arith })

  all_sums : Sums 0 (0 + statement_count modules) (summed (mapped_modules kinds places modules))
  all_sums = sums_from 0 0 modules all_add

  pub end_is : (program_map kinds places modules).end ≡ FIRST_PLACE + total c (placed_shape (program modules))
  end_is = ap (slice_index places) (sym shape_long) ∙ are.each (length (placed_shape (program modules))) (omega arith)

  pub bytes_add : FIRST_PLACE + figure_bytes (program_map kinds places modules).total ≡ (program_map kinds places modules).end
  bytes_add =
      let sums = all_sums.bytes in
      let first = are.each 0 (omega arith) ∙ first_place c (placed_shape (program modules)) in
      let end : slice_index places (0 + statement_count modules) ≡ slice_index places (statement_count modules) = ap (slice_index places) (omega arith) in
      omega arith

  pub jumps_add : (program_map kinds places modules).total.jumps ≡ (program_map kinds places modules).total.short + (program_map kinds places modules).total.long
  jumps_add = all_sums.jumps
