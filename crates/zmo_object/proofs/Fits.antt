-- In a module that keeps the rules, every number fits its field in the object file.
use Rattle.std.proofs.Common.{◌≡◌, ◌≤◌, ◌<◌, ◌+◌, ℕ, zero, suc, Bool, List, [], ◌∷◌, length, get_or, map, All, arith, inl, inr}
use Rattle.std.specs.declared.vec.Vec.{Vec}
use Rattle.std.specs.List.Sorted.{IsStrictlyIncreasing}
use Rattle.std.proofs.lemmas.Bool.{cases_lt}
use Rattle.std.proofs.lemmas.List.Elements.{All-nil, All-cons, All-get_or, All-head, All-tail, All-weaker}
use Rattle.zmo_object.specs.declared.module.hole.Hole.{Hole}
use Rattle.zmo_object.specs.declared.module.hole.Width.{Width}
use Rattle.zmo_object.specs.declared.module.Label as label
use Rattle.zmo_object.specs.declared.module.statement.Statement as statement
use Rattle.zmo_object.specs.Holes.{LieWithin, width_size}
use Rattle.zmo_object.specs.Modules as object
use Rattle.zmo_object.specs.Modules.{Label, Module, ModuleStatement, label_of, module_of, statement_of}
use Rattle.zmo_object.specs.Rules.{IsLabel, IsModule, IsObjectName, IsModuleStatement}
use Rattle.zmo_object.specs.Private.{FitsHeader, FitsWords}

-- in a strictly increasing list, element k is at least k
increasing_reach : (xs : List ℕ) → IsStrictlyIncreasing xs → (k : ℕ) → k < length xs → k ≤ get_or xs k 0
increasing_reach xs up zero lt = omega arith
increasing_reach xs up (suc k) lt =
    let before = increasing_reach xs up k (omega arith) in
    let e : k + 1 ≡ suc k = omega arith in
    let step = up k (omega arith) in
    let next : get_or xs k 0 < get_or xs (suc k) 0 = rw (← e) step in
    omega arith

pub few_below : (n : ℕ) (xs : List ℕ) → All (λ x. x < n) xs → IsStrictlyIncreasing xs → length xs ≤ n
few_below n xs below up =
    elim (cases_lt n (length xs)) [
      | inl more ↦
          let reach = increasing_reach xs up n more in
          let under : get_or xs n 0 < n = All-get_or (λ x. x < n) xs n 0 more below in
          omega arith
      | inr le ↦ le
    ]

size_least : (w : Width) → 1 ≤ width_size w
size_least Width.Byte = omega arith
size_least Width.Word = omega arith

-- fix-ups that do not overlap take a byte each at least, so there are no more than bytes
holes_few : (from count : ℕ) (hs : List Hole) → from ≤ count → LieWithin from count hs → length hs + from ≤ count
holes_few from count [] le within = omega arith
holes_few from count (h ∷ hs) le within =
    let least = size_least h.width in
    let others = holes_few (h.offset + width_size h.width) count hs within.1 within.2 in
    omega (arith, within.0)

holes_fit : (from count : ℕ) (hs : List Hole) → count ≤ 65535 → LieWithin from count hs → All (λ h. h.offset ≤ 65535) hs
holes_fit from count [] le within = All-nil (λ h. h.offset ≤ 65535)
holes_fit from count (h ∷ hs) le within =
    let least = size_least h.width in
    All-cons (λ h. h.offset ≤ 65535) h hs (omega (arith, within.1)) (holes_fit (h.offset + width_size h.width) count hs le within.2)

pub statement_fits : (grow : Bool) (refs : ℕ) (s : ModuleStatement) → IsModuleStatement grow refs s → FitsWords s
statement_fits grow refs (object.Bytes bytes holes) rule =
    let size : length bytes ≤ 65535 = rule.0.1 in
    let few = holes_few 0 (length bytes) holes (omega arith) rule.1 in
    (size, omega arith, holes_fit 0 (length bytes) holes size rule.1)
statement_fits grow refs (object.Jump marked condition target) rule = tt
statement_fits grow refs (object.Short branch target) rule = tt
statement_fits grow refs (object.Space size fill) rule = tt

pub header_fits : (m : Module) → IsModule m → FitsHeader m
header_fits m rules = record {
  name = rules.name;
  statements = omega (arith, rules.few_statements);
  labels = omega (arith, rules.few_names);
  publics = omega (arith, rules.few_names, few_below (length m.labels) m.publics rules.public_labels rules.publics_ascend);
  externals = omega (arith, rules.few_names);
}

-- what holds of each element of a mapped list holds of each image of an element of the list
pub from_map : {X Y : Type 0} (P : Y → Type 0) (f : X → Y) (xs : List X) → All P (map f xs) → All (λ x. P (f x)) xs
from_map P f [] all = All-nil (λ x. P (f x))
from_map P f (x ∷ xs) all = All-cons (λ x. P (f x)) x xs (All-head P (f x) (map f xs) all) (from_map P f xs (All-tail P (f x) (map f xs) all))

-- The names of labels have 255 bytes at most, and so have those of externals.

pub labels_short : (ls : List label.Label) (n : ℕ) → All (IsLabel n) (map label_of ls) → All (λ l. length l.name.items ≤ 255) ls
labels_short ls n all = All-weaker (λ l. IsLabel n (label_of l)) (λ l. length l.name.items ≤ 255) (λ l rule. rule.1.1) ls (from_map (IsLabel n) label_of ls all)

pub statements_fit : (grow : Bool) (refs : ℕ) (ss : List statement.Statement) → All (IsModuleStatement grow refs) (map statement_of ss) → All (λ s. FitsWords (statement_of s)) ss
statements_fit grow refs ss all =
    All-weaker (λ s. IsModuleStatement grow refs (statement_of s)) (λ s. FitsWords (statement_of s)) (λ s rule. statement_fits grow refs (statement_of s) rule) ss (from_map (IsModuleStatement grow refs) statement_of ss all)

pub externals_short : {A : Type 0} (names : List (Vec ℕ A)) → All IsObjectName (map (λ name. name.items) names) → All (λ name. length name.items ≤ 255) names
externals_short names all =
    All-weaker (λ name. IsObjectName name.items) (λ name. length name.items ≤ 255) (λ name rule. rule.1) names (from_map IsObjectName (λ name. name.items) names all)
