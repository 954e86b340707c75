-- The rounds: each EQU line has its last value once the lines that it uses have theirs.
use Rattle.std.proofs.Common.{◌≡◌, ◌<◌, ◌≤◌, ◌+◌, ◌∙◌, sym, ap, refl, subst, ℕ, zero, suc, Bool, true, false, cond, List, [], ◌∷◌, Option, Some, None, Result, map, take, length, slice_index_or, inl, inr, ◌⊎◌, arith}
use Rattle.std.specs.List.{Contains, cons_option, filter_map}
use Rattle.asm_names.specs.declared.walk.Turn.{Turn}
use Rattle.asm_names.specs.Orders.Order.{AreInOrder, turn_definitions}
use Rattle.std.specs.Map.{lookup}
use Rattle.std.specs.Option.{option_map}
use Rattle.std.specs.Str.{bytes_eq}
use Rattle.std.proofs.lemmas.Slice.Eq.{bytes_eq-Decides}
use Rattle.asm_parse.specs.declared.item.Item.{Item}
use Rattle.asm_parse.specs.Source.{Name, Here}
use Rattle.asm_parse.specs.Expression.{postfix}
use Rattle.asm_expr.specs.declared.meaning.Meaning.{Meaning}
use Rattle.asm_expr.specs.Names.{Table}
use Rattle.asm_expr.specs.Equating.{equated}
use Rattle.asm_expr.specs.Below.{only, run, source_tree}
use Rattle.asm_spell.specs.Line.{ExpressionItems}
use Rattle.asm_names.specs.declared.kind.Kind.{Kind}
use Rattle.asm_names.specs.Lines.{Taken}
use Rattle.asm_names.specs.Names.{Names, kind_of_name}
use Rattle.asm_names.specs.Circles.{equ_line, items_at, line_named, lines_named}
use Rattle.asm_names.specs.Layout.{Layout}
use Rattle.asm_names.specs.Meanings.{after_rounds, circular, equ_meaning, meaning, meaning_by, table_at, undefined, expression_fault_of}
use Rattle.asm_names.specs.declared.equ_fault.EquFault.{EquFault}
use Rattle.asm_names.specs.Faults.{first, if_so}
use Rattle.asm_parse.specs.declared.fault.ExprFault.{ExprFault}
use Rattle.asm_expr.proofs.ByNames.{equated_by_names}
use Rattle.asm_expr.proofs.Below.{run-one}

-- looking up a name in a mapped table
found_mapped : (f : List ℕ → Kind → Meaning) (p : List ℕ → Bool) (names : Names) → ((d : List ℕ) (e : List ℕ) → p d ≡ true → p e ≡ true → d ≡ e)
    → (x : List ℕ) → p x ≡ true → lookup p (map (λ d. (d.0, f d.0 d.1)) names) ≡ option_map (f x) (lookup p names)
found_mapped f p [] one x is = refl
found_mapped f p (d ∷ ds) one x is =
    elim (p d.0) as (λ b. p d.0 ≡ b → cond b (Some (f d.0 d.1)) (lookup p (map (λ e. (e.0, f e.0 e.1)) ds)) ≡ option_map (f x) (cond b (Some d.1) (lookup p ds))) [
      | true ↦ λ here. ap (λ n. Some (f n d.1)) (one d.0 x here is)
      | false ↦ λ there. found_mapped f p ds one x is
    ] refl

-- what a name stands for after one round more
pub found_after : (n : ℕ) (names : Names) (lines : List Taken) (circle : ℕ → Bool) (layout : Layout) (x : List ℕ)
    → lookup (bytes_eq x) (after_rounds (suc n) names lines circle layout) ≡ option_map (meaning names lines circle layout (after_rounds n names lines circle layout) x) (kind_of_name names x)
found_after n names lines circle layout x =
    found_mapped (meaning names lines circle layout (after_rounds n names lines circle layout)) (bytes_eq x) names (λ d e same also. sym ((bytes_eq-Decides x d).0 same) ∙ (bytes_eq-Decides x e).0 also) x ((bytes_eq-Decides x x).1 refl)

-- the value of the EQU in line `at` after some rounds
abbrev pub round_value : ℕ → Names → List Taken → (ℕ → Bool) → Layout → ℕ → Meaning
round_value n names lines circle layout at = equ_meaning names circle (table_at layout (after_rounds n names lines circle layout) at) at (items_at lines at)

by_worth : (names : Names) (circle : ℕ → Bool) (at : ℕ) (e : ExpressionItems) (t u : Table) → equated t (source_tree e) ≡ equated u (source_tree e) → equ_meaning names circle t at e ≡ equ_meaning names circle u at e
by_worth names circle at e t u is = ap (λ r. meaning_by (first (undefined names e ∷ circular circle at ∷ expression_fault_of r ∷ [])) r) is

-- the names of the expression that some items make are among these items
pub read_names : (items : ExpressionItems) (x : List ℕ) → Contains (postfix (source_tree items)) (Item.Leaf (Name x)) → Contains items (Item.Leaf (Name x))
read_names items x has =
    elim (run items []) as (λ r. run items [] ≡ r → Contains (postfix (only Here r)) (Item.Leaf (Name x)) → Contains items (Item.Leaf (Name x))) [
      | None ↦ λ _ here. absurd (no_name here)
      | Some [] ↦ λ _ here. absurd (no_name here)
      | Some (e ∷ []) ↦ λ is one. subst (λ all. Contains all (Item.Leaf (Name x))) (run-one items e is) one
      | Some (e ∷ f ∷ more) ↦ λ _ here. absurd (no_name here)
    ] refl has
  where
    no_name : Contains (Item.Leaf Here ∷ []) (Item.Leaf (Name x)) → ⊥
    no_name (zero, lt, e) = cc
    no_name (suc k, lt, e) = omega (arith, lt)

-- A line has the same value in two rounds if its names stand for the same.
agreed : (n m : ℕ) (names : Names) (lines : List Taken) (circle : ℕ → Bool) (layout : Layout) (at : ℕ)
    → ((x : List ℕ) → Contains (items_at lines at) (Item.Leaf (Name x)) → lookup (bytes_eq x) (after_rounds n names lines circle layout) ≡ lookup (bytes_eq x) (after_rounds m names lines circle layout))
    → round_value n names lines circle layout at ≡ round_value m names lines circle layout at
agreed n m names lines circle layout at same =
    by_worth names circle at (items_at lines at) (table_at layout (after_rounds n names lines circle layout) at) (table_at layout (after_rounds m names lines circle layout) at)
    (equated_by_names (table_at layout (after_rounds n names lines circle layout) at) (table_at layout (after_rounds m names lines circle layout) at) (source_tree (items_at lines at))
    (record { here = refl; statements = refl; names = λ x has. same x (read_names (items_at lines at) x has) }))

by_fault : (u : Option EquFault) (c : Bool) (r : Result Meaning ExprFault) → c ≡ true → meaning_by (first (u ∷ if_so EquFault.EquCircle c ∷ expression_fault_of r ∷ [])) r ≡ Meaning.Faulty
by_fault (Some why) c r is = refl
by_fault None true r is = refl
by_fault None false r is = absurd (cc)

-- a line on a circle has no value
circle_value : (n : ℕ) (names : Names) (lines : List Taken) (circle : ℕ → Bool) (layout : Layout) (at : ℕ) → circle at ≡ true → round_value n names lines circle layout at ≡ Meaning.Faulty
circle_value n names lines circle layout at is =
    by_fault (undefined names (items_at lines at)) (circle at) (equated (table_at layout (after_rounds n names lines circle layout) at) (source_tree (items_at lines at))) is

in_cons : (o : Option ℕ) (rest : List ℕ) (b : ℕ) → (o ≡ Some b) ⊎ Contains rest b → Contains (cons_option o rest) b
in_cons None rest b (inl bad) = absurd (cc)
in_cons None rest b (inr more) = more
in_cons (Some a) rest b (inl same) = (let e : a ≡ b = cc in (0, omega arith, e))
in_cons (Some a) rest b (inr (k, lt, e)) = (suc k, omega (arith, lt), e)

-- a line uses another one if it uses its name
pub used_line : (names : Names) (items : ExpressionItems) (x : List ℕ) (b : ℕ) → Contains items (Item.Leaf (Name x)) → kind_of_name names x ≡ Some (Kind.Equ b) → Contains (filter_map (line_named names) items) b
used_line names [] x b (k, lt, e) is = absurd (omega (arith, lt))
used_line names (i ∷ items) x b (zero, lt, e) is = in_cons (line_named names i) (filter_map (line_named names) items) b (inl (ap (line_named names) e ∙ ap equ_line is))
used_line names (i ∷ items) x b (suc k, lt, e) is =
    in_cons (line_named names i) (filter_map (line_named names) items) b (inr (used_line names items x b (k, omega (arith, lt), e) is))

by_kind : (n m : ℕ) (names : Names) (lines : List Taken) (circle : ℕ → Bool) (layout : Layout) (x : List ℕ) (k : Option Kind)
    → ((b : ℕ) → k ≡ Some (Kind.Equ b) → round_value n names lines circle layout b ≡ round_value m names lines circle layout b)
    → option_map (meaning names lines circle layout (after_rounds n names lines circle layout) x) k ≡ option_map (meaning names lines circle layout (after_rounds m names lines circle layout) x) k
by_kind n m names lines circle layout x None same = refl
by_kind n m names lines circle layout x (Some (Kind.Label at)) same = refl
by_kind n m names lines circle layout x (Some Kind.External) same = refl
by_kind n m names lines circle layout x (Some (Kind.Equ b)) same = ap Some (same b refl)

-- the turn with index q
abbrev pub turn_at : List Turn → ℕ → Turn
turn_at turns q = slice_index_or turns q (record { definition = 0; on_circle = false })

pub placed_turn : (turns : List Turn) (q b : ℕ) → Contains (turn_definitions (take q turns)) b → (r : ℕ) × (r < q) × (r < length turns) × ((turn_at turns r).definition ≡ b)
placed_turn turns zero b (k, lt, e) = absurd (omega (arith, lt))
placed_turn [] (suc q) b (k, lt, e) = absurd (omega (arith, lt))
placed_turn (t ∷ turns) (suc q) b (zero, lt, e) = (0, omega arith, omega arith, e)
placed_turn (t ∷ turns) (suc q) b (suc k, lt, e) = (let r = placed_turn turns q b (k, omega (arith, lt), e) in (suc r.0, (let a = r.1 in omega arith), (let a = r.2 in omega arith), r.3))

pub stable : (names : Names) (lines : List Taken) (circle : ℕ → Bool) (layout : Layout) (turns : List Turn) → AreInOrder (lines_named names lines) turns
    → ((q : ℕ) → q < length turns → (turn_at turns q).on_circle ≡ true → circle (turn_at turns q).definition ≡ true)
    → (bound q : ℕ) → q < bound → q < length turns → (n : ℕ) → q + 1 ≤ n
    → round_value n names lines circle layout (turn_at turns q).definition ≡ round_value (q + 1) names lines circle layout (turn_at turns q).definition
stable names lines circle layout turns order tells zero q below room n le = absurd (omega arith)
stable names lines circle layout turns order tells (suc bound) q below room zero le = absurd (omega arith)
stable names lines circle layout turns order tells (suc bound) q below room (suc n) le =
    let t : Turn = turn_at turns q in
    let at : ℕ = t.definition in
    let earlier : (b : ℕ) → Contains (turn_definitions (take q turns)) b → (m : ℕ) → q ≤ m → round_value m names lines circle layout b ≡ round_value q names lines circle layout b = λ b has m qm.
    let r = placed_turn turns q b has in
    let last : (k : ℕ) → r.0 + 1 ≤ k → round_value k names lines circle layout (turn_at turns r.0).definition ≡ round_value (r.0 + 1) names lines circle layout (turn_at turns r.0).definition = λ k rk. stable names lines circle layout turns order tells bound r.0 (let a = r.1 in omega arith) r.2 k rk in
    subst (λ l. round_value m names lines circle layout l ≡ round_value q names lines circle layout l) r.3 (last m (let a = r.1 in omega arith) ∙ sym (last q (let a = r.1 in omega arith))) in
    elim t.on_circle as (λ b. t.on_circle ≡ b → round_value (suc n) names lines circle layout at ≡ round_value (q + 1) names lines circle layout at) [
      | true ↦ λ is. (let c = tells q room is in circle_value (suc n) names lines circle layout at c ∙ sym (circle_value (q + 1) names lines circle layout at c))
      | false ↦ λ is.
          let next : suc q ≡ q + 1 = omega arith in
          let same : (x : List ℕ) → Contains (items_at lines at) (Item.Leaf (Name x))
          → lookup (bytes_eq x) (after_rounds (suc n) names lines circle layout) ≡ lookup (bytes_eq x) (after_rounds (suc q) names lines circle layout) = λ x has.
          found_after n names lines circle layout x
          ∙ by_kind n q names lines circle layout x (kind_of_name names x)
          (λ b k. earlier b ((order q (record { definition = 0; on_circle = false }) room).behind is b (used_line names (items_at lines at) x b has k)) n (omega arith))
          ∙ sym (found_after q names lines circle layout x) in
          subst (λ k. round_value (suc n) names lines circle layout at ≡ round_value k names lines circle layout at) next
          (agreed (suc n) (suc q) names lines circle layout at same)
    ] refl
