-- What holds if modules have no error together.
use Rattle.std.proofs.Common.{◌≡◌, ◌≤◌, ◌<◌, ◌+◌, refl, ℕ, Bool, true, false, cond, List, [], ◌∷◌, Option, Some, None, length, arith}
use Rattle.std.specs.Prelude.{nat_le, ◌-◌}
use Rattle.std.specs.List.{All, flat_map, slice_index_or}
use Rattle.std.specs.Option.{IfSome, option_map_or}
use Rattle.std.specs.Str.{bytes_eq}
use Rattle.std.proofs.lemmas.Bool.{ltb-false, leb-true}
use Rattle.std.proofs.lemmas.List.Elements.{All-append, All-cons, All-get_or, All-head, All-map, All-nil, All-tail, All-weaker}
use Rattle.std.proofs.lemmas.Map.Entries.{All-lookup}
use Rattle.common.specs.declared.limits.TheConstants.{MOST_STATEMENTS}
use Rattle.zmo_object.specs.Modules.{Module}
use Rattle.zmo_object.specs.Rules.{IsLabel, IsModule, IsModuleStatement, refs_of}
use Rattle.zlink.specs.declared.program.fault.JoinFault.{JoinFault}
use Rattle.zlink.specs.Program.Faults.{first_fault, fault_if, some_or_else}
use Rattle.zlink.specs.Program.Laws.{IsWithin, statement_count}
use Rattle.zlink.specs.Program.Parts.{ModulePart, Publics, public_found, public_labels, given_label, label_at, parts, parts_from, all_publics}
use Rattle.zlink.specs.Program.Whole.{placed_statements, program, public_statement, stands}
use Rattle.zlink.proofs.Programs.Laid_end_to_end.{count-cons, length-program}

none_first : {A : Type 0} (a b : Option A) → some_or_else a b ≡ None → a ≡ None
none_first None b none = refl
none_first (Some x) b none = absurd cc

none_so : (fault : JoinFault) (holds : Bool) → fault_if fault holds ≡ None → holds ≡ false
none_so fault true none = absurd cc
none_so fault false none = refl

pub few : (modules : List Module) → first_fault modules ≡ None → length (program modules) ≤ MOST_STATEMENTS
few modules none =
    let count : length (program modules) ≡ statement_count modules = length-program (all_publics (parts modules)) 0 0 modules in
    let le : statement_count modules ≤ MOST_STATEMENTS = ltb-false MOST_STATEMENTS (statement_count modules) (none_so JoinFault.TooManyStatements _ (none_first _ _ none)) in
    omega (arith, count, le)

all_flat : {X A : Type 0} (P : A → Type 0) (f : X → List A) (xs : List X) → All (λ x. All P (f x)) xs → All P (flat_map f xs)
all_flat P f [] all = All-nil P
all_flat P f (x ∷ xs) all = All-append P (f x) (flat_map f xs) (All-head (λ y. All P (f y)) x xs all) (all_flat P f xs (All-tail (λ y. All P (f y)) x xs all))

-- a part that keeps the rules, and whose statements end within this count
record IsAmong (count : ℕ) (p : ModulePart) : Type 0 where
  pub rules : IsModule p.holds
  pub ends : p.base + length p.holds.statements ≤ count

parts_among : (count number base : ℕ) (modules : List Module) → All IsModule modules → base + statement_count modules ≤ count → All (IsAmong count) (parts_from number base modules)
parts_among count number base [] all le = All-nil (IsAmong count)
parts_among count number base (m ∷ ms) all le =
    let own = count-cons m ms in
    All-cons (IsAmong count) (record { number = number; base = base; holds = m }) (parts_from (number + 1) (base + length m.statements) ms)
    (record { rules = All-head IsModule m ms all; ends = omega (arith, own, le) })
    (parts_among count (number + 1) (base + length m.statements) ms (All-tail IsModule m ms all) (omega (arith, own, le)))

given_among : (count : ℕ) (p : ModulePart) → IsAmong count p → All (λ e. e.1 ≤ count) (public_labels p)
given_among count p among =
    All-map (λ e. e.1 ≤ count) (given_label p) p.holds.publics
    (All-weaker (λ l. l < length p.holds.labels) (λ l. (given_label p l).1 ≤ count)
    (λ l lt. let label : IsLabel (length p.holds.statements) (label_at p.holds l) = All-get_or (IsLabel (length p.holds.statements)) p.holds.labels l (record { statement = 0; name = [] }) lt among.rules.labels in
    omega (arith, label.0, among.ends)) p.holds.publics among.rules.public_labels)

-- the statement that a name stands for is within this count
standing_among : (count : ℕ) (names : Publics) (name : List ℕ) → All (λ e. e.1 ≤ count) names → public_statement names name ≤ count
standing_among count names name all = by_found (public_found names name) (All-lookup (λ n. n ≤ count) (bytes_eq name) names all)
  where
    by_found : (o : Option ℕ) → IfSome o (λ n. n ≤ count) → option_map_or (λ n. n) o 0 ≤ count
    by_found None told = omega arith
    by_found (Some n) told = told

stands_among : (count : ℕ) (names : Publics) (p : ModulePart) (ref : ℕ) → All (λ e. e.1 ≤ count) names → IsAmong count p → stands names p ref ≤ count
stands_among count names p ref all among = by_test (nat_le ref (length p.holds.statements)) refl
  where
    by_test : (b : Bool) → nat_le ref (length p.holds.statements) ≡ b → cond b (p.base + ref) (public_statement names (slice_index_or p.holds.externals (ref - (length p.holds.statements + 1)) [])) ≤ count
    by_test true is = omega (arith, leb-true ref (length p.holds.statements) is, among.ends)
    by_test false is = standing_among count names (slice_index_or p.holds.externals (ref - (length p.holds.statements + 1)) []) all

placed_within : (count : ℕ) (names : Publics) (p : ModulePart) → All (λ e. e.1 ≤ count) names → IsAmong count p → All (IsWithin count) (placed_statements names p)
placed_within count names p all among =
    All-map (IsWithin count) (λ s. record { statement = s; stands = stands names p }) p.holds.statements
    (All-weaker (IsModuleStatement p.holds.grow (refs_of p.holds)) (λ s. IsWithin count (record { statement = s; stands = stands names p }))
    (λ s rules. record { grow = p.holds.grow; refs = refs_of p.holds; rules = rules; stands = λ ref lt. stands_among count names p ref all among }) p.holds.statements among.rules.statements)

pub within : (modules : List Module) → All IsModule modules → All (IsWithin (length (program modules))) (program modules)
within modules all =
    let count : length (program modules) ≡ statement_count modules = length-program (all_publics (parts modules)) 0 0 modules in
    let among = parts_among (length (program modules)) 0 0 modules all (omega (arith, count)) in
    let names = all_flat (λ e. e.1 ≤ length (program modules)) public_labels (parts modules) (All-weaker (IsAmong (length (program modules))) _ (given_among (length (program modules))) (parts modules) among) in
    all_flat (IsWithin (length (program modules))) (placed_statements (all_publics (parts modules))) (parts modules)
    (All-weaker (IsAmong (length (program modules))) _ (λ p here. placed_within (length (program modules)) (all_publics (parts modules)) p names here) (parts modules) among)
