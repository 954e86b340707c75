-- Defining labels and externals, one after the other.
use Rattle.std.proofs.Common.{◌≡◌, ◌<◌, ◌≤◌, ◌+◌, ◌∙◌, sym, ap, refl, subst, ℕ, zero, suc, Bool, true, false, cond, List, [], ◌∷◌, ◌++◌, Option, Some, None, length, map, take, arith}
use Rattle.std.specs.List.{AllByRecursion, IsDistinct, cons_option, position_from, slice_get}
use Rattle.std.specs.Map.{lookup}
use Rattle.std.specs.Option.{unwrap_or}
use Rattle.std.specs.Str.{bytes_eq}
use Rattle.std.proofs.lemmas.List.{append-nil, length_push}
use Rattle.std.proofs.lemmas.Option.{slice_get_within}
use Rattle.std.proofs.Math.Seq.{take-nil}
use Rattle.std.proofs.lemmas.List.Elements.{filter_map-append}
use Rattle.std.proofs.lemmas.Slice.Eq.{bytes_eq-Decides}
use Rattle.asm_expr.specs.declared.meaning.Meaning.{Meaning}
use Rattle.asm_expr.specs.Names.{found}
use Rattle.asm_names.specs.declared.kind.Kind.{Kind}
use Rattle.asm_names.specs.Names.{Names, kind_of_name}
use Rattle.asm_names.specs.declared.places.Places.{Places}
use Rattle.asm_names.specs.Layout.{Layout, next_at}
use Rattle.asm_names.specs.Meanings.{Entries, external_in, external_ref, externals}
use Rattle.asm_names.specs.Private.Placed.{Defines, HasPlaces, place_by, place_of, placed, placed_of, with_name}

abbrev Key : Type 0
Key = List ℕ

abbrev keys : Names → List Key
keys names = map (λ d. d.0) names

absurd_bool : {A : Type 0} (b : Bool) → b ≡ true → b ≡ false → A
absurd_bool true one other = absurd cc
absurd_bool false one other = absurd cc

-- If a name differs from all others, it differs from each.
differs : (e : Key) (es : Names) (i : ℕ) (d : Key × Kind) → AllByRecursion (λ k. bytes_eq e k ≡ false) (keys es) → slice_get es i ≡ Some d → bytes_eq e d.0 ≡ false
differs e [] i d all is = absurd cc
differs e (x ∷ es) zero d all is = (let same : x ≡ d = cc in subst (λ y. bytes_eq e y.0 ≡ false) same all.0)
differs e (x ∷ es) (suc i) d all is = differs e es i d all.1 is

differs_back : (x y : Key) → bytes_eq x y ≡ false → bytes_eq y x ≡ false
differs_back x y e = elim (bytes_eq y x) as (λ b. bytes_eq y x ≡ b → b ≡ false) [
  | true ↦ λ same. absurd_bool (bytes_eq x y) ((bytes_eq-Decides x y).1 (sym ((bytes_eq-Decides y x).0 same))) e
  | false ↦ λ other. refl
] refl

-- Looking up a name finds its own entry.
found_there : (names : Names) (i : ℕ) (d : Key × Kind) → IsDistinct bytes_eq (keys names) → slice_get names i ≡ Some d → kind_of_name names d.0 ≡ Some d.1
unfolding IsDistinct
found_there [] i d distinct is = absurd cc
found_there (e ∷ es) zero d distinct is = (let same : e ≡ d = cc in subst (λ x. kind_of_name (e ∷ es) x.0 ≡ Some x.1) same (let here : bytes_eq e.0 e.0 ≡ true = (bytes_eq-Decides e.0 e.0).1 refl in rw here refl))
found_there (e ∷ es) (suc i) d distinct is = rw (differs_back e.0 d.0 (differs e.0 es i d distinct.0 is)) (found_there es i d distinct.1 is)

-- The same for the labels and externals that are defined.

abbrev Place : Type 0
Place = Key × Meaning

lookup_placed : (x : Key) (name : Key) (what : Option Meaning) (rest : List Place) → bytes_eq x name ≡ false → lookup (bytes_eq x) (cons_option (with_name name what) rest) ≡ lookup (bytes_eq x) rest
lookup_placed x name None rest other = refl
lookup_placed x name (Some m) rest other = rw other refl

none_placed : (names : Names) (layout : Layout) (some : Names) (x : Key) → AllByRecursion (λ k. bytes_eq x k ≡ false) (keys some) → lookup (bytes_eq x) (placed_of names layout some) ≡ None
none_placed names layout [] x none = refl
none_placed names layout (e ∷ es) x none = lookup_placed x e.0 (place_of names layout e.0 e.1) (placed_of names layout es) none.0 ∙ none_placed names layout es x none.1

first_placed : (x : Key) (what : Option Meaning) (rest : List Place) → lookup (bytes_eq x) rest ≡ None → lookup (bytes_eq x) (cons_option (with_name x what) rest) ≡ what
first_placed x None rest none = none
first_placed x (Some m) rest none = (let here : bytes_eq x x ≡ true = (bytes_eq-Decides x x).1 refl in rw here refl)

pub placed_lookup : (names : Names) (layout : Layout) (some : Names) (x : Key) → IsDistinct bytes_eq (keys some) → lookup (bytes_eq x) (placed_of names layout some) ≡ place_by names layout x (kind_of_name some x)
unfolding IsDistinct
placed_lookup names layout [] x distinct = refl
placed_lookup names layout (e ∷ es) x distinct =
    elim (bytes_eq x e.0) as (λ b. bytes_eq x e.0 ≡ b → lookup (bytes_eq x) (placed_of names layout (e ∷ es)) ≡ place_by names layout x (cond b (Some e.1) (kind_of_name es x))) [
      | true ↦ λ same.
          let is : e.0 ≡ x = sym ((bytes_eq-Decides x e.0).0 same) in
          let none : lookup (bytes_eq x) (placed_of names layout es) ≡ None = none_placed names layout es x (subst (λ k. AllByRecursion (λ y. bytes_eq k y ≡ false) (keys es)) is distinct.0) in
          subst (λ k. lookup (bytes_eq x) (cons_option (with_name k (place_of names layout k e.1)) (placed_of names layout es)) ≡ place_of names layout x e.1) (sym is)
          (first_placed x (place_of names layout x e.1) (placed_of names layout es) none)
      | false ↦ λ other. lookup_placed x e.0 (place_of names layout e.0 e.1) (placed_of names layout es) other ∙ placed_lookup names layout es x distinct.1
    ] refl

-- a name is not among those before it
pub new_place : (names : Names) (layout : Layout) (all : Names) (i : ℕ) (d : Key × Kind) → IsDistinct bytes_eq (keys all) → slice_get all i ≡ Some d
    → lookup (bytes_eq d.0) (placed_of names layout (take i all)) ≡ None
unfolding IsDistinct
new_place names layout [] i d distinct is = absurd cc
new_place names layout (e ∷ es) zero d distinct is = refl
new_place names layout (e ∷ es) (suc i) d distinct is =
    lookup_placed d.0 e.0 (place_of names layout e.0 e.1) (placed_of names layout (take i es)) (differs_back e.0 d.0 (differs e.0 es i d distinct.0 is))
    ∙ new_place names layout es i d distinct.1 is

-- the position of an external is how many externals come before it
external_at : (n i : ℕ) (all : Names) (name : Key) → IsDistinct bytes_eq (keys all) → slice_get all i ≡ Some (name, Kind.External) → position_from (bytes_eq name) n (externals all) ≡ Some (n + length (externals (take i all)))
unfolding IsDistinct
external_at n i [] name distinct is = absurd cc
external_at n zero ((x, kind) ∷ es) name distinct is =
    let same : (x, kind) ≡ (name, Kind.External) = cc in
    let first : bytes_eq name name ≡ true = (bytes_eq-Decides name name).1 refl in
    subst (λ (d : Key × Kind). position_from (bytes_eq name) n (externals (d ∷ es)) ≡ Some (n + 0)) (sym same) (rw first (ap Some (omega arith)))
external_at n (suc i) ((x, Kind.External) ∷ es) name distinct is =
    rw (differs_back x name (differs x es i (name, Kind.External) distinct.0 is)) (external_at (n + 1) i es name distinct.1 is ∙ ap Some (omega arith))
external_at n (suc i) ((x, Kind.Label l) ∷ es) name distinct is = external_at n i es name distinct.1 is
external_at n (suc i) ((x, Kind.Equ l) ∷ es) name distinct is = external_at n i es name distinct.1 is

-- What is defined so far. The first lemma adds one name.
take_one : (names : Names) (i : ℕ) (d : Key × Kind) → slice_get names i ≡ Some d → take (suc i) names ≡ take i names ++ d ∷ []
take_one [] i d is = absurd cc
take_one (e ∷ es) zero d is = (let same : e ≡ d = cc in ap (λ x. x ∷ []) same)
take_one (e ∷ es) (suc i) d is = ap (λ rest. e ∷ rest) (take_one es i d is)

pub take_more_names : (names : Names) (i : ℕ) (d : Key × Kind) → slice_get names i ≡ Some d → take (i + 1) names ≡ take i names ++ d ∷ []
take_more_names names i d is = (let next : i + 1 ≡ suc i = omega arith in ap (λ n. take n names) next ∙ take_one names i d is)

pub record PlacedSoFar (names : Names) (layout : Layout) (at : ℕ) (p : Places) : Type 0 where
  pub entries : p.names.entries ≡ placed_of names layout (take at names)
  pub statements : p.names.statements ≡ layout.statements
  pub next : p.external ≡ (length layout.statements + 1) + length (externals (take at names))

-- the entries once one more name is defined
entries_more : (names : Names) (layout : Layout) (at : ℕ) (d : Key × Kind) (es : Entries) → slice_get names at ≡ Some d → es ≡ placed_of names layout (take at names) ++ placed_of names layout (d ∷ [])
    → es ≡ placed_of names layout (take (at + 1) names)
entries_more names layout at d es is e = e ∙ sym (filter_map-append (placed names layout) (take at names) (d ∷ [])) ∙ ap (placed_of names layout) (sym (take_more_names names at d is))

externals_more : (names : Names) (at : ℕ) (d : Key × Kind) → slice_get names at ≡ Some d → externals (take (at + 1) names) ≡ externals (take at names) ++ externals (d ∷ [])
externals_more names at d is = ap externals (take_more_names names at d is) ∙ filter_map-append external_in (take at names) (d ∷ [])

-- an external has the next number
external_is : (names : Names) (layout : Layout) (at : ℕ) (name : Key) (p : Places) → IsDistinct bytes_eq (keys names) → slice_get names at ≡ Some (name, Kind.External) → PlacedSoFar names layout at p
    → p.external ≡ external_ref names layout name
external_is names layout at name p distinct is was = was.next ∙ ap (λ n. (length layout.statements + 1) + unwrap_or n 0) (sym (external_at 0 at names name distinct is ∙ ap Some (omega arith)))

more_placed : (names : Names) (layout : Layout) (at : ℕ) (name : Key) (kind : Kind) (old new : Places) → IsDistinct bytes_eq (keys names) → slice_get names at ≡ Some (name, kind)
    → Defines layout name kind old new → PlacedSoFar names layout at old → PlacedSoFar names layout (at + 1) new
more_placed names layout at name (Kind.Label l) old new distinct is done was = record {
  entries = entries_more names layout at (name, Kind.Label l) new.names.entries is (ap (λ p. p.names.entries) done ∙ ap (λ es. es ++ (name, Meaning.Label (next_at layout l)) ∷ []) was.entries);
  statements = ap (λ p. p.names.statements) done ∙ was.statements;
  next = ap (λ p. p.external) done ∙ was.next ∙ ap (λ es. (length layout.statements + 1) + length es) (sym (append-nil (externals (take at names))) ∙ sym (externals_more names at (name, Kind.Label l) is));
}
more_placed names layout at name Kind.External old new distinct is done was = record {
  entries = entries_more names layout at (name, Kind.External) new.names.entries is
      (ap (λ p. p.names.entries) done
      ∙ ap (λ r. old.names.entries ++ (name, Meaning.External r) ∷ []) (external_is names layout at name old distinct is was)
      ∙ ap (λ es. es ++ (name, Meaning.External (external_ref names layout name)) ∷ []) was.entries);
  statements = ap (λ p. p.names.statements) done ∙ was.statements;
  next =
      let count : length (externals (take (at + 1) names)) ≡ length (externals (take at names)) + 1 = ap length (externals_more names at (name, Kind.External) is) ∙ length_push (externals (take at names)) name in
      let now : new.external ≡ old.external + 1 = ap (λ p. p.external) done in
      omega (arith, was.next, count, now);
}
more_placed names layout at name (Kind.Equ l) old new distinct is done was = record {
  entries = entries_more names layout at (name, Kind.Equ l) new.names.entries is (ap (λ p. p.names.entries) done ∙ was.entries ∙ sym (append-nil (placed_of names layout (take at names))));
  statements = ap (λ p. p.names.statements) done ∙ was.statements;
  next = ap (λ p. p.external) done ∙ was.next ∙ ap (λ es. (length layout.statements + 1) + length es) (sym (append-nil (externals (take at names))) ∙ sym (externals_more names at (name, Kind.Equ l) is));
}

-- what holds after one more name, which a look-up found
pub goes_on : (names : Names) (layout : Layout) (at : ℕ) (name : Key) (kind : Kind) (old new : Places) → IsDistinct bytes_eq (keys names) → Some (name, kind) ≡ slice_get names at
    → Defines layout name kind old new → PlacedSoFar names layout at old → PlacedSoFar names layout (at + 1) new
goes_on names layout at name kind old new distinct is done was = more_placed names layout at name kind old new distinct (sym is) done was

pub is_new_place : (names : Names) (layout : Layout) (at : ℕ) (d : Key × Kind) (p : Places) → IsDistinct bytes_eq (keys names) → Some d ≡ slice_get names at → PlacedSoFar names layout at p → found p.names d.0 ≡ None
is_new_place names layout at d p distinct is was = ap (lookup (bytes_eq d.0)) was.entries ∙ new_place names layout names at d distinct (sym is)

few_in : (names : Names) → length (externals names) ≤ length names
few_in [] = omega arith
few_in ((name, Kind.External) ∷ es) = (let le = few_in es in omega (arith, le))
few_in ((name, Kind.Label l) ∷ es) = (let le = few_in es in omega (arith, le))
few_in ((name, Kind.Equ l) ∷ es) = (let le = few_in es in omega (arith, le))

take_few : (names : Names) (at : ℕ) → at < length names → length (take at names) ≤ at
take_few [] at lt = absurd (omega (arith, lt))
take_few (e ∷ es) zero lt = omega arith
take_few (e ∷ es) (suc at) lt = (let le = take_few es at (omega (arith, lt)) in omega (arith, le))

pub few_so_far : (names : Names) (layout : Layout) (at : ℕ) (d : Key × Kind) (p : Places) → Some d ≡ slice_get names at → (length layout.statements + 1) + length names < 65536 → PlacedSoFar names layout at p → p.external < 65535
few_so_far names layout at d p is few was =
    let lt = slice_get_within names at d (sym is) in
    let le = few_in (take at names) in
    let le-2 = take_few names at lt in
    omega (arith, few, was.next, lt, le, le-2)

pub all_placed : (names : Names) (layout : Layout) (at : ℕ) (p : Places) → None ≡ slice_get names at → PlacedSoFar names layout at p → HasPlaces names layout p.names
all_placed names layout at p is was = record {
  entries = was.entries ∙ ap (placed_of names layout) (none_left names at (sym is));
  statements = was.statements;
}
  where
    none_left : (names : Names) (at : ℕ) → slice_get names at ≡ None → take at names ≡ names
    none_left [] at is = take-nil at
    none_left (e ∷ es) zero is = absurd cc
    none_left (e ∷ es) (suc at) is = ap (λ rest. e ∷ rest) (none_left es at is)
