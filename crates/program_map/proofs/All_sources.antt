-- What the statements of the program of all sources are.
use Rattle.std.proofs.Common.{◌≡◌, ◌∙◌, ◌+◌, ◌≤◌, ◌<◌, ℕ, zero, suc, Bool, List, [], ◌∷◌, ◌++◌, length, map, refl, ap, ap₂, sym, arith, get_or, take, length-append, append-nil, append_assoc}
use Rattle.std.specs.List.{AllByRecursion, AllZip, flat_map, sum_by, zip}
use Rattle.std.proofs.lemmas.List.{length-map, map-append, take_more}
use Rattle.std.proofs.lemmas.List.Sums.{sum_by-cons}
use Rattle.asm_module.specs.Assembled.{Assembled}
use Rattle.asm_module.specs.Program.Statement as statement
use Rattle.asm_module.specs.Program.Statement.{Statement}
use Rattle.zlink.specs.Program.Laws.{statement_count}
use Rattle.zlink.specs.Program.Parts.{ModulePart, Publics, all_publics, parts, parts_from}
use Rattle.zlink.specs.Program.Whole.{stands}
use Rattle.zlink.specs.Renumbered.{statement_in}
use Rattle.zlink.specs.Sources.{Assembly, AreAssembled, IsAssembly, in_whole, modules_of, program_of}
use Rattle.zlink.specs.declared.source.Source.{Source}
use Rattle.zmo_object.specs.Modules.{Module}
use Rattle.program_map.specs.declared.maps.kind.Kind.{Kind}
use Rattle.program_map.specs.Kinds.{statement_kind, kinds}

pub zip_at : {X Y : Type 0} (R : X → Y → Type 0) (xs : List X) (ys : List Y) (i : ℕ) (d : X) → AllZip R xs ys → i < length xs → (y : Y) × (y ≡ get_or ys i y) × (i < length ys) × R (get_or xs i d) y
zip_at R [] ys i d h lt = absurd (omega arith)
zip_at R (z ∷ xs) [] i d h lt = absurd h
zip_at R (z ∷ xs) (y ∷ ys) zero d h lt = (y, refl, omega arith, h.0)
zip_at R (z ∷ xs) (y ∷ ys) (suc i) d h lt = let more = zip_at R xs ys i d h.1 (omega arith) in (more.0, more.1, (let l = more.2 in omega arith), more.3)

pub same_at : {X Y Z : Type 0} (f : X → Z) (g : Y → Z) (xs : List X) (ys : List Y) (i : ℕ) (x : X) (y : Y) → map f xs ≡ map g ys → i < length xs → x ≡ get_or xs i x → y ≡ get_or ys i y → f x ≡ g y
same_at f g [] ys i x y e lt p q = absurd (omega arith)
same_at f g (z ∷ xs) [] i x y e lt p q = absurd cc
same_at f g (z ∷ xs) (w ∷ ys) zero x y e lt p q = let first : f z ≡ g w = cc in ap f p ∙ first ∙ ap g (sym q)
same_at f g (z ∷ xs) (w ∷ ys) (suc i) x y e lt p q = let rest : map f xs ≡ map g ys = cc in same_at f g xs ys i x y rest (omega arith) p q

at_most : {X : Type 0} (f g : X → ℕ) (xs : List X) → AllByRecursion (λ x. f x ≤ g x) xs → sum_by f xs ≤ sum_by g xs
at_most f g [] h = omega arith
at_most f g (x ∷ xs) h = let more = at_most f g xs h.1 in let first = h.0 in omega (arith, sum_by-cons f x xs, sum_by-cons g x xs)

-- if no term is more than another, and the sums are equal, the terms are
pub even : {X : Type 0} (f g : X → ℕ) (xs : List X) → AllByRecursion (λ x. f x ≤ g x) xs → sum_by g xs ≡ sum_by f xs → AllByRecursion (λ x. f x ≡ g x) xs
even f g [] h e = tt
even f g (x ∷ xs) h e =
    let more = at_most f g xs h.1 in
    let first = h.0 in
    let a = sum_by-cons f x xs in
    let b = sum_by-cons g x xs in
    (omega arith, even f g xs h.1 (omega arith))

pub even_at : {X : Type 0} (P : X → Type 0) (xs : List X) (i : ℕ) (x : X) → AllByRecursion P xs → i < length xs → x ≡ get_or xs i x → P x
even_at P [] i x h lt e = absurd (omega arith)
even_at P (y ∷ xs) zero x h lt e = rw e h.0
even_at P (y ∷ xs) (suc i) x h lt e = even_at P xs i x h.1 (omega arith) e

-- a statement is what it is, whatever its refs
renumbered_kind : (to : ℕ → ℕ) (s : Statement) → statement_kind (statement_in to s) ≡ statement_kind s
renumbered_kind to (statement.Code instr numbers) = refl
renumbered_kind to (statement.Data items) = refl
renumbered_kind to (statement.Space size fill) = refl
renumbered_kind to (statement.Jump condition target) = refl
renumbered_kind to (statement.Short branch target) = refl

renumbered_kinds : (to : ℕ → ℕ) (p : List Statement) → kinds (map (statement_in to) p) ≡ kinds p
renumbered_kinds to [] = refl
renumbered_kinds to (s ∷ p) = ap₂ (λ k ks. k ∷ ks) (renumbered_kind to s) (renumbered_kinds to p)

kinds_from : (publics : Publics) (number base : ℕ) (all : List Assembly) → kinds (flat_map (in_whole publics) (zip (parts_from number base (modules_of all)) all)) ≡ flat_map (λ a. kinds a.program) all
kinds_from publics number base [] = refl
kinds_from publics number base (a ∷ all) =
    let part : ModulePart = record { number = number; base = base; holds = a.assembled.holds } in
    map-append statement_kind (in_whole publics (part, a)) (flat_map (in_whole publics) (zip (parts_from (number + 1) (base + length a.assembled.holds.statements) (modules_of all)) all))
    ∙ ap₂ (λ ks ls. ks ++ ls) (renumbered_kinds (stands publics part) a.program) (kinds_from publics (number + 1) (base + length a.assembled.holds.statements) all)

pub whole_kinds : (all : List Assembly) → kinds (program_of all) ≡ flat_map (λ a. kinds a.program) all
whole_kinds all = kinds_from (all_publics (parts (modules_of all))) 0 0 all

count_from : (publics : Publics) (number base : ℕ) (all : List Assembly) → length (flat_map (in_whole publics) (zip (parts_from number base (modules_of all)) all)) ≡ sum_by (λ (a : Assembly). length a.program) all
count_from publics number base [] = refl
count_from publics number base (a ∷ all) =
    let part : ModulePart = record { number = number; base = base; holds = a.assembled.holds } in
    let rest = flat_map (in_whole publics) (zip (parts_from (number + 1) (base + length a.assembled.holds.statements) (modules_of all)) all) in
    omega (
      arith,
      length-append (in_whole publics (part, a)) rest,
      length-map a.program (statement_in (stands publics part)),
      count_from publics (number + 1) (base + length a.assembled.holds.statements) all,
      sum_by-cons (λ (a : Assembly). length a.program) a all,
    )

pub whole_count : (all : List Assembly) → length (program_of all) ≡ sum_by (λ (a : Assembly). length a.program) all
whole_count all = count_from (all_publics (parts (modules_of all))) 0 0 all

pub module_count : (all : List Assembly) → statement_count (modules_of all) ≡ sum_by (λ (a : Assembly). length a.assembled.holds.statements) all
module_count [] = refl
module_count (a ∷ all) = omega (arith, sum_by-cons (λ (m : Module). length m.statements) a.assembled.holds (modules_of all), sum_by-cons (λ (a : Assembly). length a.assembled.holds.statements) a all, module_count all)

abbrev pub Few : Type 0
Few = (grow : Bool) (source : Source) (a : Assembly) → IsAssembly grow source a → length a.assembled.holds.statements ≤ length a.program

all_few : Few → (grow : Bool) (sources : List Source) (all : List Assembly) → AreAssembled grow sources all → AllByRecursion (λ (a : Assembly). length a.assembled.holds.statements ≤ length a.program) all
all_few few grow [] [] h = tt
all_few few grow [] (a ∷ all) h = absurd h
all_few few grow (s ∷ sources) [] h = absurd h
all_few few grow (s ∷ sources) (a ∷ all) h = (few grow s a h.0, all_few few grow sources all h.1)

-- if the program has as many statements as the modules, so has the program of each source
pub all_even : Few → (grow : Bool) (sources : List Source) (all : List Assembly) → AreAssembled grow sources all → length (program_of all) ≡ statement_count (modules_of all)
    → AllByRecursion (λ (a : Assembly). length a.assembled.holds.statements ≡ length a.program) all
all_even few grow sources all h e = even _ _ all (all_few few grow sources all h) (sym (whole_count all) ∙ e ∙ module_count all)

-- the kinds with one source more
pub told_more : (front next : List Kind) (all : List Assembly) (i : ℕ) (a : Assembly) → front ≡ flat_map (λ a. kinds a.program) (take i all) → next ≡ front ++ kinds a.program → i < length all → a ≡ get_or all i a
    → next ≡ flat_map (λ a. kinds a.program) (take (i + 1) all)
told_more front next all i a f n lt e =
    n ∙ ap (λ ks. ks ++ kinds a.program) f ∙ sym (ap (flat_map (λ a. kinds a.program)) (take_more all i a lt) ∙ flat_append (take i all) (get_or all i a) ∙ ap (λ b. flat_map (λ a. kinds a.program) (take i all) ++ kinds b.program) (sym e))
  where
    flat_append : (front : List Assembly) (a : Assembly) → flat_map (λ a. kinds a.program) (front ++ a ∷ []) ≡ flat_map (λ a. kinds a.program) front ++ kinds a.program
    flat_append [] a = simp append-nil
    flat_append (b ∷ front) a = ap (λ ks. kinds b.program ++ ks) (flat_append front a) ∙ sym (append_assoc (kinds b.program) (flat_map (λ a. kinds a.program) front) (kinds a.program))
