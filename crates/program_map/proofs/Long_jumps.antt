-- The long jumps of a map are those of the choice that gives the addresses.
use Rattle.std.proofs.Common.{◌≡◌, ◌∙◌, ◌+◌, ◌-◌, ◌≤◌, ◌<◌, ℕ, zero, suc, Bool, true, false, cond, List, [], ◌∷◌, ◌++◌, Option, Some, None, drop, length, map, refl, ap, ap₂, sym, subst, arith, slice_index}
use Rattle.std.specs.Prelude.{◌==◌, ◌&&◌, slice_get}
use Rattle.std.specs.List.{enumerate_from, flat_map, sum_by}
use Rattle.std.specs.Option.{option_map, option_map_or}
use Rattle.std.proofs.lemmas.List.{get_or-drop, length-map, map-append}
use Rattle.std.proofs.lemmas.List.Sums.{sum_by-cons}
use Rattle.std.proofs.lemmas.Option.{slice_get_within}
use Rattle.relax.specs.declared.shape.Statement.{Statement as Sized}
use Rattle.relax.specs.Choice.{Choice, place, size_at, size_of}
use Rattle.zmo_object.specs.Modules as object
use Rattle.zmo_object.specs.Modules.{Module, ModuleStatement}
use Rattle.zlink.specs.File.Objects.{placed_shape, sized_by}
use Rattle.zlink.specs.File.Places.{ArePlaces}
use Rattle.zlink.specs.Program.Parts.{ModulePart, Publics, all_publics, parts, parts_from}
use Rattle.zlink.specs.Program.Whole.{Placed, placed_statements, program, stands}
use Rattle.program_map.specs.declared.maps.kind.Kind.{Kind}
use Rattle.program_map.specs.Figures.{CountedStatement, counted_statement, is_relaxable_statement, jumps_with}
use Rattle.program_map.specs.Map.{mapped_modules, mapped_part, summed}
use Rattle.program_map.specs.Mapped.{MappedModule}
use Rattle.program_map.specs.Sums.{is_sized_jump}
use Rattle.program_map.proofs.Counting.{count_cons}
use Rattle.program_map.proofs.Ordered.{longs, longs_cons}
use Rattle.program_map.proofs.Placing.{next_place}

three_if_long : (long : Bool) → (cond long 3 2 == 3) ≡ long
three_if_long true = refl
three_if_long false = refl

-- a statement counts as a long jump if it is one
long_jump_counts : (f : ℕ → ℕ) (s : ModuleStatement) (long : Bool) (bytes : ℕ) → bytes ≡ size_of long (sized_by f s) → (is_relaxable_statement s && (bytes == 3)) ≡ (is_sized_jump (sized_by f s) && long)
long_jump_counts f (object.Jump marked condition target) long bytes e = ap (λ n. n == 3) e ∙ three_if_long long
long_jump_counts f (object.Bytes b holes) long bytes e = refl
long_jump_counts f (object.Short branch target) long bytes e = refl
long_jump_counts f (object.Space size fill) long bytes e = refl

longs_append : (c : Choice) (base : ℕ) (xs ys : List Sized) → longs c base (xs ++ ys) ≡ longs c base xs + longs c (base + length xs) ys
longs_append c base [] ys = (let e : longs c (base + 0) ys ≡ longs c base ys = ap (λ n. longs c n ys) (omega arith) in omega arith)
longs_append c base (x ∷ xs) ys =
    let more = longs_append c (base + 1) xs ys in
    let at : longs c (base + 1 + length xs) ys ≡ longs c (base + length (x ∷ xs)) ys = ap (λ n. longs c n ys) (omega arith) in
    omega (arith, longs_cons c base x (xs ++ ys), longs_cons c base x xs)

module _ (kinds : Option (List Kind)) (places : List ℕ) (c : Choice) where
  -- the addresses step by the sizes of the statements
  abbrev pub Follows : ℕ → List Sized → Type 0
  Follows base [] = Unit {0}
  Follows base (s ∷ shape) = (slice_index places (base + 1) - slice_index places base ≡ size_of (c base) s) × Follows (base + 1) shape

  follows_append : (base : ℕ) (xs ys : List Sized) → Follows base (xs ++ ys) → Follows base xs × Follows (base + length xs) ys
  follows_append base [] ys h = (tt, subst (λ n. Follows n ys) (omega arith) h)
  follows_append base (x ∷ xs) ys h = let more = follows_append (base + 1) xs ys h.1 in ((h.0, more.0), subst (λ n. Follows n ys) (omega arith) more.1)

  follows_from : (shape : List Sized) → ArePlaces c shape places → (base : ℕ) (rest : List Sized) → ((k : ℕ) (s : Sized) → slice_get rest k ≡ Some s → slice_get shape (base + k) ≡ Some s) → Follows base rest
  follows_from shape are base [] there = tt
  follows_from shape are base (s ∷ rest) there =
      let own : slice_get shape base ≡ Some s = subst (λ n. slice_get shape n ≡ Some s) (omega arith) (there 0 s refl) in
      let within = slice_get_within shape base s own in
      let size : size_at c shape base ≡ size_of (c base) s = ap (λ o. option_map_or (size_of (c base)) o 0) own in
      let here = are.each base (omega arith) in
      let next = are.each (base + 1) (omega arith) in
      (omega (arith, next_place c shape base), follows_from shape are (base + 1) rest (λ k t e. subst (λ n. slice_get shape n ≡ Some t) (omega arith) (there (suc k) t e)))

  abbrev sized_placed : (ℕ → ℕ) → List ModuleStatement → List Sized
  sized_placed f ss = map (λ (p : Placed). sized_by p.stands p.statement) (map (λ s. record { statement = s; stands = f }) ss)

  module_longs : (own : Option (List Kind)) (base i : ℕ) (f : ℕ → ℕ) (ss : List ModuleStatement) → Follows (base + i) (sized_placed f ss)
      → jumps_with 3 (map (counted_statement own (drop base places)) (enumerate_from i ss)) ≡ longs c (base + i) (sized_placed f ss)
  module_longs own base i f [] h = refl
  module_longs own base i f (s ∷ ss) h =
      let after : slice_index (drop base places) (i + 1) ≡ slice_index places (base + i + 1) = get_or-drop base places (i + 1) 0 ∙ ap (slice_index places) (omega arith) in
      let at : slice_index (drop base places) i ≡ slice_index places (base + i) = get_or-drop base places i 0 in
      let bytes : slice_index (drop base places) (i + 1) - slice_index (drop base places) i ≡ size_of (c (base + i)) (sized_by f s) = ap₂ (λ a b. a - b) after at ∙ h.0 in
      let more = module_longs own base (i + 1) f ss (subst (λ n. Follows n (sized_placed f ss)) (omega arith) h.1) in
      let same : longs c (base + (i + 1)) (sized_placed f ss) ≡ longs c (base + i + 1) (sized_placed f ss) = ap (λ n. longs c n (sized_placed f ss)) (omega arith) in
      count_cons (λ (s : CountedStatement). s.relaxable && (s.bytes == 3)) (counted_statement own (drop base places) (i, s)) (map (counted_statement own (drop base places)) (enumerate_from (i + 1) ss))
      ∙ ap₂ (λ a n. cond a 1 0 + n) (long_jump_counts f s (c (base + i)) _ bytes) (more ∙ same)
      ∙ sym (longs_cons c (base + i) (sized_by f s) (sized_placed f ss))

  longs_from : (publics : Publics) (number base : ℕ) (ms : List Module) → Follows base (placed_shape (flat_map (placed_statements publics) (parts_from number base ms)))
      → sum_by (λ (m : MappedModule). m.figures.long) (map (mapped_part kinds places) (parts_from number base ms)) ≡ longs c base (placed_shape (flat_map (placed_statements publics) (parts_from number base ms)))
  longs_from publics number base [] h = refl
  longs_from publics number base (m ∷ ms) h =
      let p : ModulePart = record { number = number; base = base; holds = m } in
      let rest : List ModulePart = parts_from (number + 1) (base + length m.statements) ms in
      let own : List Sized = sized_placed (stands publics p) m.statements in
      let more : List Sized = placed_shape (flat_map (placed_statements publics) rest) in
      let split : placed_shape (flat_map (placed_statements publics) (parts_from number base (m ∷ ms))) ≡ own ++ more = map-append (λ (p : Placed). sized_by p.stands p.statement) (placed_statements publics p) (flat_map (placed_statements publics) rest) in
      let long : base + length own ≡ base + length m.statements = ap (λ n. base + n) (length-map (placed_statements publics p) _ ∙ length-map m.statements _) in
      let both = follows_append base own more (subst (Follows base) split h) in
      let first = module_longs (option_map (drop base) kinds) base 0 (stands publics p) m.statements (subst (λ n. Follows n own) (omega arith) both.0) in
      let first_at : longs c (base + 0) own ≡ longs c base own = ap (λ n. longs c n own) (omega arith) in
      let after = longs_from publics (number + 1) (base + length m.statements) ms (subst (λ n. Follows n more) long both.1) in
      let after_at : longs c (base + length own) more ≡ longs c (base + length m.statements) more = ap (λ n. longs c n more) long in
      sum_by-cons (λ (m : MappedModule). m.figures.long) (mapped_part kinds places p) (map (mapped_part kinds places) rest)
      ∙ ap₂ (λ a b. a + b) (first ∙ first_at) (after ∙ sym after_at)
      ∙ sym (longs_append c base own more)
      ∙ ap (longs c base) (sym split)

  pub longs_counted : (modules : List Module) → ArePlaces c (placed_shape (program modules)) places → (summed (mapped_modules kinds places modules)).long ≡ longs c 0 (placed_shape (program modules))
  longs_counted modules are =
      longs_from (all_publics (parts modules)) 0 0 modules
      (follows_from (placed_shape (program modules)) are 0 (placed_shape (program modules)) (λ k s e. subst (λ n. slice_get (placed_shape (program modules)) n ≡ Some s) (omega arith) e))
