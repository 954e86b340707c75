-- The rules that the labels and externals of a list of names keep.
use Rattle.std.proofs.Common.{◌≡◌, ◌≤◌, ◌+◌, sym, ℕ, false, All, List, [], ◌∷◌, ◌++◌, length, map, arith}
use Rattle.std.specs.List.{AllByRecursion, IsDistinct}
use Rattle.std.specs.Str.{bytes_eq}
use Rattle.std.proofs.lemmas.Bool.{false_from_ne_true, both_ways}
use Rattle.std.proofs.lemmas.List.Elements.{All-cons, All-head, All-nil, All-tail}
use Rattle.std.proofs.lemmas.Slice.Eq.{bytes_eq-Decides}
use Rattle.asm_names.specs.declared.kind.Kind.{Kind}
use Rattle.asm_names.specs.Names.{Names, names}
use Rattle.asm_names.specs.Layout.{Layout, next_at}
use Rattle.asm_names.specs.Meanings.{externals}
use Rattle.zmo_object.specs.Rules.{IsLabel, IsObjectName}
use Rattle.asm_module.specs.Holding.{labels}

abbrev Key : Type 0
Key = List ℕ

-- P holds of the name
abbrev Of : (Key → Type 0) → Key × Kind → Type 0
Of P d = P d.0

-- Labels and externals have names that an object file may hold.

pub labels_kept : (layout : Layout) (names : Names) (count : ℕ) → ((at : ℕ) → next_at layout at ≤ count) → All (λ d. IsObjectName d.0) names → All (IsLabel count) (labels layout names)
labels_kept layout [] count few all = All-nil (IsLabel count)
labels_kept layout ((name, Kind.Label at) ∷ ds) count few all =
    All-cons (IsLabel count) (record { statement = next_at layout at; name = name }) (labels layout ds) (few at, All-head (Of IsObjectName) (name, Kind.Label at) ds all)
    (labels_kept layout ds count few (All-tail (Of IsObjectName) (name, Kind.Label at) ds all))
labels_kept layout ((name, Kind.External) ∷ ds) count few all = labels_kept layout ds count few (All-tail (Of IsObjectName) (name, Kind.External) ds all)
labels_kept layout ((name, Kind.Equ at) ∷ ds) count few all = labels_kept layout ds count few (All-tail (Of IsObjectName) (name, Kind.Equ at) ds all)

pub externals_kept : (P : Key → Type 0) (names : Names) → All (λ d. P d.0) names → All P (externals names)
externals_kept P [] all = All-nil P
externals_kept P ((name, Kind.Label at) ∷ ds) all = externals_kept P ds (All-tail (Of P) (name, Kind.Label at) ds all)
externals_kept P ((name, Kind.External) ∷ ds) all =
    All-cons P name (externals ds) (All-head (Of P) (name, Kind.External) ds all) (externals_kept P ds (All-tail (Of P) (name, Kind.External) ds all))
externals_kept P ((name, Kind.Equ at) ∷ ds) all = externals_kept P ds (All-tail (Of P) (name, Kind.Equ at) ds all)

pub few_kept : (layout : Layout) (names : Names) → length (labels layout names) + length (externals names) ≤ length names
few_kept layout [] = omega arith
few_kept layout ((name, Kind.Label at) ∷ ds) = (let le = few_kept layout ds in omega (arith, le))
few_kept layout ((name, Kind.External) ∷ ds) = (let le = few_kept layout ds in omega (arith, le))
few_kept layout ((name, Kind.Equ at) ∷ ds) = (let le = few_kept layout ds in omega (arith, le))

-- No two names are equal: each name is one label or one external at most.

abbrev keys : Names → List Key
keys names = map (λ d. d.0) names

abbrev label_names : Layout → Names → List Key
label_names layout names = map (λ l. l.name) (labels layout names)

abbrev taken : Layout → Names → List Key
taken layout names = label_names layout names ++ externals names

-- if two names differ, they also differ in the other order
differ_back : (x y : Key) → bytes_eq x y ≡ false → bytes_eq y x ≡ false
differ_back x y e = false_from_ne_true (bytes_eq y x) (λ same. both_ways (bytes_eq x y) e ((bytes_eq-Decides x y).1 (sym ((bytes_eq-Decides y x).0 same))))

all_between : (P : Key → Type 0) (xs : List Key) (y : Key) (ys : List Key) → AllByRecursion P (xs ++ ys) → P y → AllByRecursion P (xs ++ y ∷ ys)
all_between P [] y ys all one = (one, all)
all_between P (x ∷ xs) y ys all one = (all.0, all_between P xs y ys all.1 one)

all_taken : (P : Key → Type 0) (layout : Layout) (names : Names) → AllByRecursion P (keys names) → AllByRecursion P (taken layout names)
all_taken P layout [] all = tt
all_taken P layout ((name, Kind.Label at) ∷ ds) all = (all.0, all_taken P layout ds all.1)
all_taken P layout ((name, Kind.External) ∷ ds) all = all_between P (label_names layout ds) name (externals ds) (all_taken P layout ds all.1) all.0
all_taken P layout ((name, Kind.Equ at) ∷ ds) all = all_taken P layout ds all.1

distinct_between : (xs : List Key) (y : Key) (ys : List Key) → IsDistinct bytes_eq (xs ++ ys) → AllByRecursion (λ k. bytes_eq y k ≡ false) (xs ++ ys) → IsDistinct bytes_eq (xs ++ y ∷ ys)
unfolding IsDistinct
distinct_between [] y ys d none = (none, d)
distinct_between (x ∷ xs) y ys d none = (all_between (λ k. bytes_eq x k ≡ false) xs y ys d.0 (differ_back y x none.0), distinct_between xs y ys d.1 none.1)

pub distinct_kept : (layout : Layout) (names : Names) → IsDistinct bytes_eq (map (λ d. d.0) names) → IsDistinct bytes_eq (map (λ l. l.name) (labels layout names) ++ externals names)
unfolding IsDistinct
distinct_kept layout [] d = tt
distinct_kept layout ((name, Kind.Label at) ∷ ds) d = (all_taken (λ k. bytes_eq name k ≡ false) layout ds d.0, distinct_kept layout ds d.1)
distinct_kept layout ((name, Kind.External) ∷ ds) d =
    distinct_between (label_names layout ds) name (externals ds) (distinct_kept layout ds d.1) (all_taken (λ k. bytes_eq name k ≡ false) layout ds d.0)
distinct_kept layout ((name, Kind.Equ at) ∷ ds) d = distinct_kept layout ds d.1
