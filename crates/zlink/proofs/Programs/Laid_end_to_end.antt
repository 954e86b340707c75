-- Modules that are put one after the other.
use Rattle.std.proofs.Common.{◌≡◌, ◌+◌, ◌∙◌, sym, ap, refl, ℕ, zero, suc, List, [], ◌∷◌, ◌++◌, Option, Some, None, length, take, arith, length-append}
use Rattle.std.specs.List.{flat_map, slice_get}
use Rattle.std.specs.Option.{option_map}
use Rattle.std.proofs.lemmas.List.{length-map}
use Rattle.std.proofs.lemmas.List.Sums.{sum_by-cons}
use Rattle.std.proofs.lemmas.Option.{same_Some, slice_get-map}
use Rattle.zmo_object.specs.Modules.{Module, ModuleStatement}
use Rattle.zlink.specs.Program.Laws.{part_at, statement_count}
use Rattle.zlink.specs.Program.Parts.{ModulePart, Publics, parts, parts_from, all_publics}
use Rattle.zlink.specs.Program.Whole.{placed_statements, program, stands}

pub count-cons : (m : Module) (ms : List Module) → statement_count (m ∷ ms) ≡ length m.statements + statement_count ms
count-cons m ms = sum_by-cons (λ x. length x.statements) m ms

-- part number m, if the first part has a number and a base
pub part_get : (number base : ℕ) (modules : List Module) (m : ℕ)
    → slice_get (parts_from number base modules) m ≡ option_map (λ x. record { number = number + m; base = base + statement_count (take m modules); holds = x }) (slice_get modules m)
part_get number base [] m = refl
part_get number base (x ∷ xs) zero =
    let here : number ≡ number + 0 = omega arith in
    let front : base ≡ base + 0 = omega arith in
    ap (λ n. Some (record { number = n; base = base; holds = x })) here ∙ ap (λ b. Some (record { number = number + 0; base = b; holds = x })) front
part_get number base (x ∷ xs) (suc m) =
    let next : number + 1 + m ≡ number + suc m = omega arith in
    let behind : base + length x.statements + statement_count (take m xs) ≡ base + statement_count (x ∷ take m xs) = omega (arith, count-cons x (take m xs)) in
    part_get (number + 1) (base + length x.statements) xs m
    ∙ ap (λ n. option_map (λ y. record { number = n; base = base + length x.statements + statement_count (take m xs); holds = y }) (slice_get xs m)) next
    ∙ ap (λ b. option_map (λ y. record { number = number + suc m; base = b; holds = y }) (slice_get xs m)) behind

pub part_there : (modules : List Module) (m : ℕ) → slice_get (parts modules) m ≡ option_map (part_at modules m) (slice_get modules m)
part_there modules m =
    let number : 0 + m ≡ m = omega arith in
    let base : 0 + statement_count (take m modules) ≡ statement_count (take m modules) = omega arith in
    part_get 0 0 modules m
    ∙ ap (λ n. option_map (λ y. record { number = n; base = 0 + statement_count (take m modules); holds = y }) (slice_get modules m)) number
    ∙ ap (λ b. option_map (λ y. record { number = m; base = b; holds = y }) (slice_get modules m)) base

pub parts-take : (number base : ℕ) (modules : List Module) (m : ℕ) → take m (parts_from number base modules) ≡ parts_from number base (take m modules)
parts-take number base [] zero = refl
parts-take number base [] (suc m) = refl
parts-take number base (x ∷ xs) zero = refl
parts-take number base (x ∷ xs) (suc m) = ap (λ ps. record { number = number; base = base; holds = x } ∷ ps) (parts-take (number + 1) (base + length x.statements) xs m)

pub length-program : (names : Publics) (number base : ℕ) (modules : List Module) → length (flat_map (placed_statements names) (parts_from number base modules)) ≡ statement_count modules
length-program names number base [] = refl
length-program names number base (x ∷ xs) =
    let here : ModulePart = record { number = number; base = base; holds = x } in
    let own : length (placed_statements names here) ≡ length x.statements = length-map x.statements (λ s. record { statement = s; stands = stands names here }) in
    let rest = length-program names (number + 1) (base + length x.statements) xs in
    length-append (placed_statements names here) (flat_map (placed_statements names) (parts_from (number + 1) (base + length x.statements) xs)) ∙ omega arith ∙ sym (count-cons x xs)

get_left : {X : Type 0} (xs ys : List X) (i : ℕ) (x : X) → slice_get xs i ≡ Some x → slice_get (xs ++ ys) i ≡ Some x
get_left [] ys i x is = absurd cc
get_left (y ∷ xs) ys zero x is = is
get_left (y ∷ xs) ys (suc i) x is = get_left xs ys i x is

get_right : {X : Type 0} (xs ys : List X) (i k : ℕ) → k ≡ length xs + i → slice_get (xs ++ ys) k ≡ slice_get ys i
get_right [] ys i k is = ap (slice_get ys) (omega (arith, is))
get_right (x ∷ xs) ys i zero is = absurd (omega (arith, is))
get_right (x ∷ xs) ys i (suc k) is = get_right xs ys i k (omega (arith, is))

-- an element of the list that one member is mapped to is an element of the joined lists
get_flat : {X A : Type 0} (f : X → List A) (xs : List X) (m i : ℕ) (x : X) (a : A) → slice_get xs m ≡ Some x → slice_get (f x) i ≡ Some a → slice_get (flat_map f xs) (length (flat_map f (take m xs)) + i) ≡ Some a
get_flat f [] m i x a is at = absurd cc
get_flat f (y ∷ ys) zero i x a is at =
    let first : 0 + i ≡ i = omega arith in
    ap (slice_get (f y ++ flat_map f ys)) first ∙ get_left (f y) (flat_map f ys) i a (ap (λ z. slice_get (f z) i) (same_Some y x is) ∙ at)
get_flat f (y ∷ ys) (suc m) i x a is at =
    let behind = length-append (f y) (flat_map f (take m ys)) in
    get_right (f y) (flat_map f ys) (length (flat_map f (take m ys)) + i) (length (flat_map f (take (suc m) (y ∷ ys))) + i) (omega (arith, behind)) ∙ get_flat f ys m i x a is at

-- the base of a part is the number of statements in the parts before it
base_is : (names : Publics) (modules : List Module) (m : ℕ) (p : ModulePart) → slice_get (parts modules) m ≡ Some p → p.base ≡ length (flat_map (placed_statements names) (take m (parts modules)))
base_is names modules m p is = by_module (slice_get modules m) (sym (part_there modules m) ∙ is) ∙ sym (ap (λ ps. length (flat_map (placed_statements names) ps)) (parts-take 0 0 modules m) ∙ length-program names 0 0 (take m modules))
  where
    by_module : (o : Option Module) → option_map (part_at modules m) o ≡ Some p → p.base ≡ statement_count (take m modules)
    by_module None told = absurd cc
    by_module (Some x) told = sym (ap (λ q. q.base) (same_Some (part_at modules m x) p told))

pub statement_there : (modules : List Module) (m i : ℕ) (p : ModulePart) (s : ModuleStatement) → slice_get (parts modules) m ≡ Some p → slice_get p.holds.statements i ≡ Some s
    → slice_get (program modules) (p.base + i) ≡ Some (record { statement = s; stands = stands (all_publics (parts modules)) p })
statement_there modules m i p s is at =
    let names = all_publics (parts modules) in
    ap (λ b. slice_get (program modules) (b + i)) (base_is names modules m p is)
    ∙ get_flat (placed_statements names) (parts modules) m i p (record { statement = s; stands = stands names p }) is
    (slice_get-map (λ t. record { statement = t; stands = stands names p }) p.holds.statements i ∙ ap (option_map (λ t. record { statement = t; stands = stands names p })) at)
