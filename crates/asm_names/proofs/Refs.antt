-- Names stand for refs less than a count: those of statements, and after them those of externals.
use Rattle.std.proofs.Common.{◌≡◌, ◌<◌, ◌≤◌, ◌+◌, ◌∙◌, sym, ap, refl, subst, ℕ, zero, suc, Bool, true, false, cond, List, [], ◌∷◌, Option, Some, None, Ok, Err, length, map, nat_lt, arith}
use Rattle.std.specs.List.{position_from}
use Rattle.std.specs.Map.{lookup}
use Rattle.std.specs.Option.{option_map, unwrap_or}
use Rattle.std.specs.Str.{bytes_eq}
use Rattle.std.proofs.lemmas.Bool.{lt-ltb, ltb-true}
use Rattle.asm_parse.specs.declared.fault.ExprFault.{ExprFault}
use Rattle.asm_expr.specs.declared.answer.Settled.{Settled}
use Rattle.asm_expr.specs.declared.meaning.Meaning.{Meaning}
use Rattle.asm_expr.specs.Equating.{equated}
use Rattle.asm_expr.specs.Names.{Table}
use Rattle.asm_expr.specs.Origins.{AllBring, AreRefs, Brings}
use Rattle.asm_expr.specs.Below.{source_tree}
use Rattle.asm_parse.specs.Expression as parsed
use Rattle.asm_parse.specs.Source.{Operand}
use Rattle.asm_names.specs.declared.kind.Kind.{Kind}
use Rattle.asm_names.specs.Lines.{Taken}
use Rattle.asm_names.specs.Names.{Names, kind_of_name}
use Rattle.asm_names.specs.declared.equ_fault.EquFault.{EquFault}
use Rattle.asm_names.specs.Circles.{items_at}
use Rattle.asm_names.specs.Layout.{Layout, next_at}
use Rattle.asm_names.specs.Meanings.{after_rounds, name_meanings, equ_fault, externals, meaning, meaning_by, table_at}
use Rattle.asm_names.proofs.Rounds.{found_after}

-- an external that a look-up finds is among the externals
external_among : (p : List ℕ → Bool) (n : ℕ) (names : Names) → lookup p names ≡ Some Kind.External → (k : ℕ) × (position_from p n (externals names) ≡ Some k) × (k < n + length (externals names))
external_among p n [] is = cc
external_among p n ((x, Kind.External) ∷ names) is =
    elim (p x) as (λ b. cond b (Some Kind.External) (lookup p names) ≡ Some Kind.External
    → (k : ℕ) × (cond b (Some n) (position_from p (n + 1) (externals names)) ≡ Some k) × (k < n + suc (length (externals names)))) [
      | true ↦ λ _. (n, refl, omega arith)
      | false ↦ λ more. (let k = external_among p (n + 1) names more in (k.0, k.1, (let lt = k.2 in omega (arith, lt))))
    ] is
external_among p n ((x, Kind.Label at) ∷ names) is =
    elim (p x) as (λ b. cond b (Some (Kind.Label at)) (lookup p names) ≡ Some Kind.External → (k : ℕ) × (position_from p n (externals names) ≡ Some k) × (k < n + length (externals names))) [
      | true ↦ λ bad. cc
      | false ↦ λ more. external_among p n names more
    ] is
external_among p n ((x, Kind.Equ at) ∷ names) is =
    elim (p x) as (λ b. cond b (Some (Kind.Equ at)) (lookup p names) ≡ Some Kind.External → (k : ℕ) × (position_from p n (externals names) ≡ Some k) × (k < n + length (externals names))) [
      | true ↦ λ bad. cc
      | false ↦ λ more. external_among p n names more
    ] is

-- before the first round nothing is known
nothing_yet : (p : List ℕ → Bool) (names : Names) (what : Meaning) → lookup p (map (λ d. (d.0, Meaning.Faulty)) names) ≡ Some what → what ≡ Meaning.Faulty
nothing_yet p [] what is = cc
nothing_yet p (d ∷ ds) what is =
    elim (p d.0) as (λ b. cond b (Some Meaning.Faulty) (lookup p (map (λ e. (e.0, Meaning.Faulty)) ds)) ≡ Some what → what ≡ Meaning.Faulty) [
      | true ↦ λ here. cc
      | false ↦ λ more. nothing_yet p ds what more
    ] is

-- A ref is less than `count`, as a test that is true.
abbrev IsBelow : ℕ → ℕ → Type 0
IsBelow count r = nat_lt r count ≡ true

below_refs : (count : ℕ) (s : Settled) → AreRefs (IsBelow count) s → AreRefs (λ r. r < count) s
below_refs count (Settled.Known items) all = λ k d lt. ltb-true _ count (all k d lt)
below_refs count (Settled.Unknown what) all = tt

below_count : (count : ℕ) (what : Meaning) → Brings (IsBelow count) what → Brings (λ r. r < count) what
below_count count (Meaning.Label s) below = ltb-true s count below
below_count count (Meaning.External r) below = ltb-true r count below
below_count count (Meaning.Constant n) below = tt
below_count count Meaning.UnknownConstant below = tt
below_count count (Meaning.Equ equated) below = below_refs count equated.settled below
below_count count Meaning.Faulty below = tt

-- what a law of `asm_expr` says about the value of an EQU: it has no other refs than the names in its expression
abbrev BringsNoOther : Type 0
BringsNoOther = (p : ℕ → Bool) (t : Table) → AllBring (λ r. p r ≡ true) t → (e : parsed.Expression Operand) (what : Meaning) → equated t e ≡ Ok what → Brings (λ r. p r ≡ true) what

module _ (no_other : BringsNoOther) (names : Names) (lines : List Taken) (circle : ℕ → Bool) (layout : Layout) (count : ℕ) (places : (at : ℕ) → next_at layout at < count)
    (room : (length layout.statements + 1) + length (externals names) ≤ count) where
  by_fault : (f : Option EquFault) (t : Table) (e : parsed.Expression Operand) → AllBring (IsBelow count) t → Brings (IsBelow count) (meaning_by f (equated t e))
  by_fault f t e all =
      elim (equated t e) as (λ r. equated t e ≡ r → Brings (IsBelow count) (meaning_by f r)) [
        | Ok what ↦ λ is. good f what (no_other (λ r. nat_lt r count) t all e what is)
        | Err why ↦ λ _. bad f why
      ] refl
    where
      good : (g : Option EquFault) (what : Meaning) → Brings (IsBelow count) what → Brings (IsBelow count) (meaning_by g (Ok what))
      good None what brings = brings
      good (Some why) what brings = tt

      bad : (g : Option EquFault) (why : ExprFault) → Brings (IsBelow count) (meaning_by g (Err why))
      bad None why = tt
      bad (Some other) why = tt

  abbrev known : ℕ → List (List ℕ × Meaning)
  known n = after_rounds n names lines circle layout

  by_kind : (n : ℕ) (x : List ℕ) (k : Option Kind) (what : Meaning) → kind_of_name names x ≡ k → ((name : List ℕ) (m : Meaning) → lookup (bytes_eq name) (known n) ≡ Some m → Brings (IsBelow count) m)
      → option_map (meaning names lines circle layout (known n) x) k ≡ Some what → Brings (IsBelow count) what
  by_kind n x None what kind before is = cc
  by_kind n x (Some (Kind.Label at)) what kind before is =
      let same : Meaning.Label (next_at layout at) ≡ what = cc in
      subst (Brings (IsBelow count)) same (lt-ltb (next_at layout at) count (places at))
  by_kind n x (Some Kind.External) what kind before is =
      let same : Meaning.External ((length layout.statements + 1) + unwrap_or (position_from (bytes_eq x) 0 (externals names)) 0) ≡ what = cc in
      let k = external_among (bytes_eq x) 0 names kind in
      let lt = k.2 in
      let at : unwrap_or (position_from (bytes_eq x) 0 (externals names)) 0 ≡ k.0 = ap (λ o. unwrap_or o 0) k.1 in
      subst (Brings (IsBelow count)) same (lt-ltb _ count (omega (arith, room, lt, at)))
  by_kind n x (Some (Kind.Equ at)) what kind before is =
      let same : meaning names lines circle layout (known n) x (Kind.Equ at) ≡ what = cc in
      subst (Brings (IsBelow count)) same
      (by_fault (equ_fault names circle (table_at layout (known n) at) at (items_at lines at)) (table_at layout (known n) at) (source_tree (items_at lines at))
      (record { here = lt-ltb (next_at layout at) count (places at); names = before }))

  rounds_below : (n : ℕ) (x : List ℕ) (what : Meaning) → lookup (bytes_eq x) (known n) ≡ Some what → Brings (IsBelow count) what
  rounds_below zero x what is = subst (Brings (IsBelow count)) (sym (nothing_yet (bytes_eq x) names what is)) tt
  rounds_below (suc n) x what is = by_kind n x (kind_of_name names x) what refl (rounds_below n) (sym (found_after n names lines circle layout x) ∙ is)

  pub refs_below : (x : List ℕ) (what : Meaning) → lookup (bytes_eq x) (name_meanings names lines circle layout) ≡ Some what → Brings (λ r. r < count) what
  refs_below x what is = below_count count what (rounds_below (suc (length lines)) x what is)
