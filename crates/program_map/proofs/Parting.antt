-- The map of one module more.
use Rattle.std.proofs.Common.{◌≡◌, ◌∙◌, ◌+◌, ◌<◌, ◌≤◌, ℕ, suc, List, [], ◌∷◌, ◌++◌, Bool, Option, Some, None, drop, length, map, refl, ap, sym, arith, append_assoc, get_or, slice_index, add-one, drop-cons, length-drop}
use Rattle.std.specs.Prelude.{Vec, is_some, vec_len}
use Rattle.std.specs.Borrow.{Bor}
use Rattle.std.specs.Global.{Global}
use Rattle.std.specs.List.{sum_by}
use Rattle.std.proofs.lemmas.List.{append-nil, drop_all, get_or-drop, map-append}
use Rattle.std.proofs.lemmas.List.Sums.{sum_by-cons, sum_by_push}
use Rattle.zmo_object.specs.declared.module.Module as whole
use Rattle.zmo_object.specs.Modules.{Module, module_of}
use Rattle.zlink.specs.Program.Laws.{statement_count}
use Rattle.zlink.specs.Program.Parts.{parts_from}
use Rattle.program_map.specs.declared.maps.figures.Figures.{Figures}
use Rattle.program_map.specs.declared.maps.kind.Kind.{Kind}
use Rattle.program_map.specs.declared.maps.map.ModuleMap.{ModuleMap}
use Rattle.program_map.specs.Figures.{Ascend}
use Rattle.program_map.specs.Map.{mapped_modules, mapped_part, program_map, summed}
use Rattle.program_map.specs.Mapped.{MappedModule, MappedProgram, mapped_module_of}
use Rattle.program_map.specs.Private.Adding.{joined_figures, seen_kinds}

-- the elements from one on
pub front_of : {X : Type 0} (xs : List X) (i : ℕ) (x : X) → i < length xs → x ≡ get_or xs i x → drop i xs ≡ x ∷ drop (i + 1) xs
front_of xs i x h e = rw (add-one, drop-cons xs i x) (ap (λ y. y ∷ drop (suc i) xs) (sym e))

pub summed_push : (ms : List MappedModule) (m : MappedModule) → summed (ms ++ m ∷ []) ≡ joined_figures (summed ms) m.figures
summed_push ms m = rw (
  sum_by_push (λ (m : MappedModule). m.figures.code) ms m,
  sum_by_push (λ (m : MappedModule). m.figures.«data») ms m,
  sum_by_push (λ (m : MappedModule). m.figures.space) ms m,
  sum_by_push (λ (m : MappedModule). m.figures.jumps) ms m,
  sum_by_push (λ (m : MappedModule). m.figures.short) ms m,
  sum_by_push (λ (m : MappedModule). m.figures.long) ms m,
) refl

pub summed_cons : (m : MappedModule) (ms : List MappedModule) → summed (m ∷ ms) ≡ joined_figures m.figures (summed ms)
summed_cons m ms = rw (
  sum_by-cons (λ (m : MappedModule). m.figures.code) m ms,
  sum_by-cons (λ (m : MappedModule). m.figures.«data») m ms,
  sum_by-cons (λ (m : MappedModule). m.figures.space) m ms,
  sum_by-cons (λ (m : MappedModule). m.figures.jumps) m ms,
  sum_by-cons (λ (m : MappedModule). m.figures.short) m ms,
  sum_by-cons (λ (m : MappedModule). m.figures.long) m ms,
) refl

pub count_front : (m : Module) (ms : List Module) → statement_count (m ∷ ms) ≡ length m.statements + statement_count ms
count_front m ms = sum_by-cons (λ (m : Module). length m.statements) m ms

-- the modules with one more, and those that are left
pub parts_more : (kinds : Option (List Kind)) (places : List ℕ) (number base next : ℕ) (m : Module) (left rest : List Module) (front : List MappedModule) (all : List MappedModule) (own : MappedModule)
    → left ≡ m ∷ rest → next ≡ base + length m.statements → own ≡ mapped_part kinds places (record { number = number; base = base; holds = m })
    → front ++ map (mapped_part kinds places) (parts_from number base left) ≡ all
    → (front ++ own ∷ []) ++ map (mapped_part kinds places) (parts_from (number + 1) next rest) ≡ all
parts_more kinds places number base next m left rest front all own e n is h =
    rw (n, is, append_assoc) (rw e at h)

pub vec_length : {X : Type 0} (v : Vec X Global) → vec_len v ≡ length v.items
vec_length v = omega (arith, v.ok)

-- the bytes so far, with those of one module more
pub bytes_more : (places own : List ℕ) (base long long' : ℕ) (f g h : Figures) → own ≡ drop base places → long' ≡ long → h ≡ joined_figures f g
    → slice_index places 0 + (f.code + f.«data» + f.space) ≡ slice_index places base → slice_index own 0 + (g.code + g.«data» + g.space) ≡ slice_index own long
    → slice_index places 0 + (h.code + h.«data» + h.space) ≡ slice_index places (base + long')
bytes_more places own base long long' f g h o l e p q =
    let q' = rw (o, get_or-drop base places 0 0, get_or-drop base places long 0) at q in
    let first : slice_index places (base + 0) ≡ slice_index places base = ap (slice_index places) (omega arith) in
    rw (e, l) (omega (arith, q', first))

-- the jumps so far, with those of one module more
pub jumps_more : (base long long' : ℕ) (f g h : Figures) → long' ≡ long → h ≡ joined_figures f g → (f.jumps ≤ base) × (f.short ≤ base) × (f.long ≤ base)
    → (g.jumps ≤ long) × (g.short ≤ long) × (g.long ≤ long) → (h.jumps ≤ base + long') × (h.short ≤ base + long') × (h.long ≤ base + long')
jumps_more base long long' f g h l e p q = rw (e, l) (omega (arith, p.0, q.0), omega (arith, p.1, q.1), omega (arith, p.2, q.2))

-- the map from its parts
pub program_is : (told : Bool) (items : List ModuleMap) (total : Figures) (end : ℕ) (kinds : Option (List Kind)) (places : List ℕ) (modules : List Module) (base : ℕ)
    → told ≡ is_some kinds → map mapped_module_of items ≡ mapped_modules kinds places modules → total ≡ summed (map mapped_module_of items) → base ≡ statement_count modules → end ≡ slice_index places base
    → ◌≡◌ {A = MappedProgram} (record { tells_data = told; modules = map mapped_module_of items; total = total; end = end }) (program_map kinds places modules)
program_is told items total end kinds places modules base a b c d e = rw (a, c, b, e, d) refl

pub told_some : (kinds : Option (Bor (List Kind))) (told : Bool) → told ≡ is_some kinds → told ≡ is_some (seen_kinds kinds)
told_some None told e = e
told_some (Some kinds) told e = e
