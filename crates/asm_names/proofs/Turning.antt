-- Settling lines, one after the other: what holds after some turns holds after one more.
use Rattle.std.proofs.Common.{◌≡◌, ◌<◌, ◌≤◌, ◌+◌, ◌==◌, ◌∙◌, ◌⊎◌, ◌||◌, ◌&&◌, inl, inr, sym, ap, refl, subst, ℕ, zero, suc, Bool, true, false, cond, not, List, [], ◌∷◌, ◌++◌, Option, Some, None, Result, length, map, replicate, set, take, slice_index_or, slice_get, arith}
use Rattle.std.specs.Prelude.{is_none, is_some}
use Rattle.std.specs.List.{Contains, IsDistinct, enumerate_from, list_all, list_any}
use Rattle.std.specs.Map.{lookup}
use Rattle.std.specs.Option.{option_map, option_map_or, option_or}
use Rattle.std.specs.Str.{bytes_eq}
use Rattle.std.proofs.lemmas.Bool.{and_parts, eqb-true, eq-eqb}
use Rattle.std.proofs.lemmas.List.Folds.{list_any-append}
use Rattle.std.proofs.lemmas.List.{get_or_default, length-map, length-replicate, length-set, take_all, take_more}
use Rattle.std.proofs.lemmas.List.Sums.{AllPass-from_list_all}
use Rattle.std.proofs.lemmas.Option.{slice_get_within}
use Rattle.std.proofs.lemmas.Slice.Eq.{bytes_eq-Decides}
use Rattle.asm_parse.specs.declared.item.Item.{Item}
use Rattle.asm_parse.specs.declared.fault.ExprFault.{ExprFault}
use Rattle.asm_parse.specs.Source.{Operand, Number, Name, Here}
use Rattle.asm_expr.specs.declared.meaning.Meaning.{Meaning}
use Rattle.asm_expr.specs.Equating.{equated}
use Rattle.asm_expr.specs.Names.{found}
use Rattle.asm_expr.specs.Below.{source_tree}
use Rattle.asm_expr.specs.Settling.{is_known}
use Rattle.asm_expr.proofs.ByNames.{equated_by_names}
use Rattle.asm_spell.specs.Line as line
use Rattle.asm_spell.specs.Line.{ExpressionItems, Line}
use Rattle.asm_names.specs.declared.walk.Turn.{Turn}
use Rattle.asm_names.specs.Orders.Circles.{IsOnCircle}
use Rattle.asm_names.specs.Orders.Order.{AreInOrder, IsOrder, turn_definitions}
use Rattle.asm_names.specs.declared.kind.Kind.{Kind}
use Rattle.asm_names.specs.Faults.{first, if_so, first_name_fault as first_fault_of_names}
use Rattle.asm_names.specs.declared.kind.SourceLine.{SourceLine}
use Rattle.asm_names.specs.Lines.{Taken, lines_of, taken_of}
use Rattle.asm_names.specs.Names as defined
use Rattle.asm_names.specs.Names.{Names, kind_of_name}
use Rattle.asm_names.specs.declared.equ_fault.EquFault.{EquFault}
use Rattle.asm_names.specs.declared.settling.Settling.{Settling}
use Rattle.asm_names.specs.Circles.{TellsCircles, equ_items, items_at, lines_named, names_in}
use Rattle.asm_names.specs.Layout.{Layout}
use Rattle.asm_names.specs.Meanings.{after_rounds, name_meanings, equ_fault, equ_meaning, first_equ_fault, equ_line_fault, meaning, meaning_by, table_at, undefined, expression_fault_of}
use Rattle.asm_names.specs.Settles.{is_marked_circular}
use Rattle.asm_names.specs.Private.Judged.{fault_by, is_named, judged}
use Rattle.asm_names.specs.Private.Placed.{HasPlaces, place_by}
use Rattle.asm_names.specs.Private.Turned.{CanTake, Stands, Takes, final, has, here_at, numbered, so_far}
use Rattle.asm_names.proofs.Placing.{placed_lookup}
use Rattle.asm_names.proofs.Rounds.{found_after, placed_turn, read_names, round_value, stable, turn_at, used_line}

-- Which lines have had their turn.

has_more : (done : List Turn) (t : Turn) (at : ℕ) → has (done ++ t ∷ []) at ≡ (has done at || (t.definition == at))
has_more done t at = list_any-append (λ u. u.definition == at) done (t ∷ []) ∙ ap (λ b. has done at || b) (or_false (t.definition == at))
  where
    or_false : (b : Bool) → (b || false) ≡ b
    or_false true = refl
    or_false false = refl

had_before : (done : List Turn) (t : Turn) (at : ℕ) → has done at ≡ true → has (done ++ t ∷ []) at ≡ true
had_before done t at is = has_more done t at ∙ ap (λ b. b || (t.definition == at)) is

has_now : (done : List Turn) (t : Turn) → has (done ++ t ∷ []) t.definition ≡ true
has_now done t = has_more done t t.definition ∙ or_true (has done t.definition) (t.definition == t.definition) (eq-eqb t.definition t.definition refl)
  where
    or_true : (a b : Bool) → b ≡ true → (a || b) ≡ true
    or_true true b is = refl
    or_true false b is = is

not_now : (done : List Turn) (t : Turn) (at : ℕ) → (t.definition == at) ≡ false → has (done ++ t ∷ []) at ≡ has done at
not_now done t at is = has_more done t at ∙ ap (λ b. has done at || b) is ∙ or_none (has done at)
  where
    or_none : (b : Bool) → (b || false) ≡ b
    or_none true = refl
    or_none false = refl

-- a line in the list of turns passes the test `has`
contains_had : (done : List Turn) (at : ℕ) → Contains (turn_definitions done) at → has done at ≡ true
contains_had [] at (k, lt, e) = absurd (omega (arith, lt))
contains_had (t ∷ ts) at (zero, lt, e) = rw (eq-eqb t.definition at e) refl
contains_had (t ∷ ts) at (suc k, lt, e) = or_true (t.definition == at) (has ts at) (contains_had ts at (k, omega (arith, lt), e))
  where
    or_true : (a b : Bool) → b ≡ true → (a || b) ≡ true
    or_true true b is = refl
    or_true false b is = is

had_contains : (done : List Turn) (at : ℕ) → has done at ≡ true → Contains (turn_definitions done) at
had_contains [] at is = absurd cc
had_contains (t ∷ ts) at is =
    elim (t.definition == at) as (λ b. (t.definition == at) ≡ b → (b || has ts at) ≡ true → Contains (turn_definitions (t ∷ ts)) at) [
      | true ↦ λ here one. (0, omega arith, eqb-true t.definition at here)
      | false ↦ λ other more. (let c = had_contains ts at more in (suc c.0, (let lt = c.1 in omega (arith, lt)), c.2))
    ] refl is

-- Each line has one turn, and so the turns say of each line whether it leads back to itself.

contains_taken : (turns : List Turn) (q r : ℕ) → r < q → r < length turns → Contains (turn_definitions (take q turns)) (turn_at turns r).definition
contains_taken [] q r lt room = absurd (omega (arith, room))
contains_taken (t ∷ ts) zero r lt room = absurd (omega (arith, lt))
contains_taken (t ∷ ts) (suc q) zero lt room = (0, omega arith, refl)
contains_taken (t ∷ ts) (suc q) (suc r) lt room = (let c = contains_taken ts q r (omega (arith, lt)) (omega (arith, room)) in (suc c.0, (let a = c.1 in omega (arith, a)), c.2))

abbrev no_turn : Turn
no_turn = record { definition = 0; on_circle = false }

one_turn : (named : ℕ → List ℕ) (turns : List Turn) → AreInOrder named turns → (q r : ℕ) → r < q → q < length turns → (turn_at turns r).definition ≡ (turn_at turns q).definition → ⊥
one_turn named turns order q r lt room same =
    (order q (record { definition = 0; on_circle = false }) room).once (subst (Contains (turn_definitions (take q turns))) same (contains_taken turns q r lt (omega (arith, lt, room))))

told_true : (turns : List Turn) (at : ℕ) → is_marked_circular turns at ≡ true → (r : ℕ) × (r < length turns) × ((turn_at turns r).definition ≡ at) × ((turn_at turns r).on_circle ≡ true)
told_true [] at is = absurd cc
told_true (t ∷ ts) at is =
    elim ((t.definition == at) && t.on_circle) as (λ b. ((t.definition == at) && t.on_circle) ≡ b → (b || is_marked_circular ts at) ≡ true
    → (r : ℕ) × (r < suc (length ts)) × ((turn_at (t ∷ ts) r).definition ≡ at) × ((turn_at (t ∷ ts) r).on_circle ≡ true)) [
      | true ↦ λ here one. (let both = and_parts (t.definition == at) t.on_circle here in (0, omega arith, eqb-true t.definition at both.0, both.1))
      | false ↦ λ other more. (let r = told_true ts at more in (suc r.0, (let lt = r.1 in omega (arith, lt)), r.2, r.3))
    ] refl is

told_of : (turns : List Turn) (q : ℕ) → q < length turns → (turn_at turns q).on_circle ≡ true → is_marked_circular turns (turn_at turns q).definition ≡ true
told_of [] q room is = absurd (omega (arith, room))
told_of (t ∷ ts) zero room is = rw (eq-eqb t.definition t.definition refl, is) refl
told_of (t ∷ ts) (suc q) room is = or_later ((t.definition == (turn_at ts q).definition) && t.on_circle) (is_marked_circular ts (turn_at ts q).definition) (told_of ts q (omega (arith, room)) is)
  where
    or_later : (a b : Bool) → b ≡ true → (a || b) ≡ true
    or_later true b is = refl
    or_later false b is = is

compare : (r q : ℕ) → (r < q) ⊎ ((r ≡ q) ⊎ (q < r))
compare zero zero = inr (inl refl)
compare zero (suc q) = inl (omega arith)
compare (suc r) zero = inr (inr (omega arith))
compare (suc r) (suc q) = next (compare r q)
  where
    next : (r < q) ⊎ ((r ≡ q) ⊎ (q < r)) → (suc r < suc q) ⊎ ((suc r ≡ suc q) ⊎ (suc q < suc r))
    next (inl less) = inl (omega (arith, less))
    next (inr (inl is)) = inr (inl (ap suc is))
    next (inr (inr more)) = inr (inr (omega (arith, more)))

same_circle : (a b : Bool) → (a ≡ true → b ≡ true) → (b ≡ true → a ≡ true) → a ≡ b
same_circle true b there back = sym (there refl)
same_circle false true there back = back refl
same_circle false false there back = refl

pub told_at : (named : ℕ → List ℕ) (turns : List Turn) → AreInOrder named turns → (q : ℕ) → q < length turns → (turn_at turns q).on_circle ≡ is_marked_circular turns (turn_at turns q).definition
told_at named turns order q room =
    same_circle (turn_at turns q).on_circle (is_marked_circular turns (turn_at turns q).definition) (told_of turns q room) back
  where
    at_once : (r : ℕ) → r < length turns → (turn_at turns r).definition ≡ (turn_at turns q).definition → (r < q) ⊎ ((r ≡ q) ⊎ (q < r)) → r ≡ q
    at_once r lt same (inl less) = absurd (one_turn named turns order q r less room same)
    at_once r lt same (inr (inl is)) = is
    at_once r lt same (inr (inr more)) = absurd (one_turn named turns order r q more lt (sym same))

    back : is_marked_circular turns (turn_at turns q).definition ≡ true → (turn_at turns q).on_circle ≡ true
    back is = (let r = told_true turns (turn_at turns q).definition is in subst (λ k. (turn_at turns k).on_circle ≡ true) (at_once r.0 r.1 r.2 (compare r.0 q)) r.3)

-- The value of a line when it has its turn.

-- The turns are an order of these lines, and exactly the EQU lines define the EQU names.
pub record Lines_in_order (names : Names) (lines : List Taken) (turns : List Turn) : Type 0 where
  pub order : IsOrder (length lines) (lines_named names lines) turns
  pub by : (name : List ℕ) (at : ℕ) → kind_of_name names name ≡ Some (Kind.Equ at) → (l : Taken) × (slice_get lines at ≡ Some l) × ((e : ExpressionItems) × (l.line ≡ line.Equ name e))
  pub each : (at : ℕ) (l : Taken) (name : List ℕ) (e : ExpressionItems) → slice_get lines at ≡ Some l → l.line ≡ line.Equ name e → kind_of_name names name ≡ Some (Kind.Equ at)

-- the items of the expression in a line with an index
pub items_there : (lines : List Taken) (at : ℕ) (l : Taken) → slice_get lines at ≡ Some l → items_at lines at ≡ equ_items l.line
items_there lines at l is = ap (λ o. option_map_or (λ m. equ_items m.line) o []) is

module _ (names : Names) (lines : List Taken) (layout : Layout) (turns : List Turn) (known : Lines_in_order names lines turns) where
  circle : ℕ → Bool
  circle = is_marked_circular turns

  abbrev value_at : ℕ → ℕ → Meaning
  value_at n at = round_value n names lines (is_marked_circular turns) layout at

  -- the lines of the turns before index q are settled
  abbrev StandsAt : ℕ → Settling → Type 0
  StandsAt q s = Stands names lines (is_marked_circular turns) layout (take q turns) s

  -- the line of a turn has the same value in all later rounds
  pub kept : (q : ℕ) → q < length turns → (n : ℕ) → q + 1 ≤ n → value_at n (turn_at turns q).definition ≡ value_at (q + 1) (turn_at turns q).definition
  kept q room n le =
      stable names lines (is_marked_circular turns) layout turns known.order.in_order
      (λ k lt is. sym (told_at (lines_named names lines) turns known.order.in_order k lt) ∙ is)
      (suc q) q (omega arith) room n le

  -- a line that has had its turn has the same value in all later rounds
  had_kept : (q at : ℕ) → has (take q turns) at ≡ true → (m : ℕ) → q ≤ m → (n : ℕ) → q ≤ n → value_at m at ≡ value_at n at
  had_kept q at had m qm n qn =
      let r = placed_turn turns q at (had_contains (take q turns) at had) in
      let last : (k : ℕ) → q ≤ k → value_at k (turn_at turns r.0).definition ≡ value_at (r.0 + 1) (turn_at turns r.0).definition = λ k qk. kept r.0 r.2 k (let a = r.1 in omega (arith, a, qk)) in
      subst (λ l. value_at m l ≡ value_at n l) r.3 (last m qm ∙ sym (last n qn))

  -- for a name that is no EQU or has had its turn, what is settled is what a round finds
  found_so_far : (q m : ℕ) (x : List ℕ) (k : Option Kind) → q ≤ length turns → q ≤ m → ((b : ℕ) → k ≡ Some (Kind.Equ b) → has (take q turns) b ≡ true)
      → so_far (has (take q turns)) (final names lines (is_marked_circular turns) layout) names layout x k ≡ option_map (meaning names lines (is_marked_circular turns) layout (after_rounds m names lines (is_marked_circular turns) layout) x) k
  found_so_far q m x None room le had = refl
  found_so_far q m x (Some (Kind.Label at)) room le had = refl
  found_so_far q m x (Some Kind.External) room le had = refl
  found_so_far q m x (Some (Kind.Equ b)) room le had =
      ap (λ c. cond c (Some (value_at (length lines) b)) None) (had b refl)
      ∙ ap Some (had_kept q b (had b refl) (length lines) (let many = known.order.many in omega (arith, many, room)) m le)

  -- the expression of a turn's line has the value that it has in each later round
  same_worth : (q m : ℕ) (s : Settling) (e : ExpressionItems) → StandsAt q s → q < length turns → q ≤ m → items_at lines (turn_at turns q).definition ≡ e → (turn_at turns q).on_circle ≡ false
      → equated (here_at layout (turn_at turns q) s.names) (source_tree e) ≡ equated (table_at layout (after_rounds (suc m) names lines (is_marked_circular turns) layout) (turn_at turns q).definition) (source_tree e)
  same_worth q m s e stands room le items off =
      equated_by_names (here_at layout (turn_at turns q) s.names) (table_at layout (after_rounds (suc m) names lines (is_marked_circular turns) layout) (turn_at turns q).definition) (source_tree e) (record {
        here = refl;
        statements = stands.statements;
        names = λ x has_it.
            let among : Contains (items_at lines (turn_at turns q).definition) (Item.Leaf (Name x)) = rw items (read_names e x has_it) in
            stands.found x
            ∙ found_so_far q m x (kind_of_name names x) (omega (arith, room)) le
            (λ b k. contains_had (take q turns) b ((known.order.in_order q no_turn room).behind off b (used_line names (items_at lines (turn_at turns q).definition) x b among k)))
            ∙ sym (found_after m names lines (is_marked_circular turns) layout x);
      })

-- A line on a circle has an error and no value, whatever its expression is.
circle_meaning : (u : Option EquFault) (c : Bool) (r r-2 : Result Meaning ExprFault) → (c ≡ false → r ≡ r-2)
    → meaning_by (first (u ∷ if_so EquFault.EquCircle c ∷ expression_fault_of r ∷ [])) r ≡ meaning_by (first (u ∷ if_so EquFault.EquCircle c ∷ expression_fault_of r-2 ∷ [])) r-2
circle_meaning (Some why) c r r-2 same = refl
circle_meaning None true r r-2 same = refl
circle_meaning None false r r-2 same = ap (λ x. meaning_by (first (expression_fault_of x ∷ [])) x) (same refl)

circle_fault : (u : Option EquFault) (c : Bool) (r r-2 : Result Meaning ExprFault) → (c ≡ false → r ≡ r-2)
    → first (u ∷ if_so EquFault.EquCircle c ∷ expression_fault_of r ∷ []) ≡ first (u ∷ if_so EquFault.EquCircle c ∷ expression_fault_of r-2 ∷ [])
circle_fault (Some why) c r r-2 same = refl
circle_fault None true r r-2 same = refl
circle_fault None false r r-2 same = ap (λ x. first (expression_fault_of x ∷ [])) (same refl)

-- whether each name is defined, tested by items and by names
pub all_named : (names : Names) (e : ExpressionItems) → not (list_all (is_named names) e) ≡ list_any (λ name. is_none (kind_of_name names name)) (names_in e)
all_named names [] = refl
all_named names (Item.Leaf (Number n) ∷ e) = all_named names e
all_named names (Item.Leaf Here ∷ e) = all_named names e
all_named names (Item.Unary op ∷ e) = all_named names e
all_named names (Item.Binary op ∷ e) = all_named names e
all_named names (Item.Leaf (Name x) ∷ e) =
    elim (kind_of_name names x) as (λ k. not (is_some k && list_all (is_named names) e) ≡ (is_none k || list_any (λ name. is_none (kind_of_name names name)) (names_in e))) [
      | None ↦ refl
      | Some kind ↦ all_named names e
    ]

-- Looking up a name after one more entry.
lookup_more : {V : Type 0} (p : List ℕ → Bool) (xs : List (List ℕ × V)) (k : List ℕ) (v : V) → lookup p (xs ++ (k, v) ∷ []) ≡ option_or (lookup p xs) (cond (p k) (Some v) None)
lookup_more p [] k v = refl
lookup_more p ((n, w) ∷ xs) k v =
    elim (p n) as (λ b. cond b (Some w) (lookup p (xs ++ (k, v) ∷ [])) ≡ option_or (cond b (Some w) (lookup p xs)) (cond (p k) (Some v) None)) [
      | true ↦ refl
      | false ↦ lookup_more p xs k v
    ]

-- Reading an element that was set.
get_set_here : {A : Type 0} (xs : List A) (i : ℕ) (v : A) → i < length xs → slice_get (set xs i v) i ≡ Some v
get_set_here [] i v lt = absurd (omega (arith, lt))
get_set_here (x ∷ xs) zero v lt = refl
get_set_here (x ∷ xs) (suc i) v lt = get_set_here xs i v (omega (arith, lt))

get_set_there : {A : Type 0} (xs : List A) (i j : ℕ) (v : A) → (i ≡ j → ⊥) → slice_get (set xs i v) j ≡ slice_get xs j
get_set_there [] i j v other = refl
get_set_there (x ∷ xs) zero zero v other = absurd (other refl)
get_set_there (x ∷ xs) zero (suc j) v other = refl
get_set_there (x ∷ xs) (suc i) zero v other = refl
get_set_there (x ∷ xs) (suc i) (suc j) v other = get_set_there xs i j v (λ same. other (ap suc same))

apart : (i j : ℕ) → (i == j) ≡ false → i ≡ j → ⊥
apart i j other same = (let here : (i == j) ≡ true = eq-eqb i j same in cc)

bytes_self : (x : List ℕ) → bytes_eq x x ≡ true
bytes_self x = (bytes_eq-Decides x x).1 refl

some_none : {A : Type 0} (k : Option A) (a : A) → k ≡ Some a → k ≡ None → ⊥
some_none None a one other = absurd cc
some_none (Some b) a one other = absurd cc

equ_same : (k : Option Kind) (a b : ℕ) → k ≡ Some (Kind.Equ a) → k ≡ Some (Kind.Equ b) → a ≡ b
equ_same k a b one other = (let e : Some (Kind.Equ a) ≡ Some (Kind.Equ b) = sym one ∙ other in cc)

equ_name : (l : Line) (x name : List ℕ) (d e : ExpressionItems) → l ≡ line.Equ x d → l ≡ line.Equ name e → x ≡ name
equ_name l x name d e one other = (let same : line.Equ x d ≡ line.Equ name e = sym one ∙ other in cc)

no_equ : (l : Line) (label : Option (List ℕ)) (body : Option line.Body) (x : List ℕ) (d : ExpressionItems) → l ≡ line.Statement label body → l ≡ line.Equ x d → ⊥
no_equ l label body x d one other = (let bad : line.Statement label body ≡ line.Equ x d = sym one ∙ other in cc)

some_same : {A : Type 0} (o : Option A) (a b : A) → o ≡ Some a → o ≡ Some b → a ≡ b
some_same o a b one other = (let e : Some a ≡ Some b = sym one ∙ other in cc)

cond_none : (b : Bool) (f : Option EquFault) → f ≡ None → cond b f None ≡ None
cond_none true f is = is
cond_none false f is = refl

-- After one line more.
module _ (names : Names) (lines : List Taken) (layout : Layout) (turns : List Turn) (known : Lines_in_order names lines turns) where
  abbrev Standing : List Turn → Settling → Type 0
  Standing done s = Stands names lines (is_marked_circular turns) layout done s

  abbrev last : ℕ → Meaning
  last at = final names lines (is_marked_circular turns) layout at

  abbrev fault_at : ℕ → Line → Option EquFault
  fault_at at l = equ_line_fault names (is_marked_circular turns) layout (name_meanings names lines (is_marked_circular turns) layout) at l

  abbrev stood : List Turn → List ℕ → Option Kind → Option Meaning
  stood done x k = so_far (has done) last names layout x k

  -- a line that defines no name by EQU
  found_plain : (done : List Turn) (t : Turn) (l : Taken) (label : Option (List ℕ)) (body : Option line.Body) → slice_get lines t.definition ≡ Some l → l.line ≡ line.Statement label body
      → (x : List ℕ) (k : Option Kind) → kind_of_name names x ≡ k → stood done x k ≡ stood (done ++ t ∷ []) x k
  found_plain done t l label body there is x None k = refl
  found_plain done t l label body there is x (Some (Kind.Label a)) k = refl
  found_plain done t l label body there is x (Some Kind.External) k = refl
  found_plain done t l label body there is x (Some (Kind.Equ b)) k =
      elim (t.definition == b) as (λ c. (t.definition == b) ≡ c → stood done x (Some (Kind.Equ b)) ≡ stood (done ++ t ∷ []) x (Some (Kind.Equ b))) [
        | true ↦ λ here. absurd (
            let g = known.by x b k in
            let one : l ≡ g.0 = some_same (slice_get lines t.definition) l g.0 there (ap (slice_get lines) (eqb-true t.definition b here) ∙ g.1) in
            no_equ l.line label body x g.2.0 is (ap (λ m. m.line) one ∙ g.2.1))
        | false ↦ λ other. ap (λ c. cond c (Some (last b)) None) (sym (not_now done t b other))
      ] refl

  fault_plain : (done : List Turn) (t : Turn) (l : Taken) (label : Option (List ℕ)) (body : Option line.Body) → slice_get lines t.definition ≡ Some l → l.line ≡ line.Statement label body
      → (at : ℕ) (m : Taken) → slice_get lines at ≡ Some m → cond (has done at) (fault_at at m.line) None ≡ cond (has (done ++ t ∷ []) at) (fault_at at m.line) None
  fault_plain done t l label body there is at m here =
      elim (t.definition == at) as (λ c. (t.definition == at) ≡ c → cond (has done at) (fault_at at m.line) None ≡ cond (has (done ++ t ∷ []) at) (fault_at at m.line) None) [
        | true ↦ λ e.
            let one : m.line ≡ line.Statement label body = ap (λ n. n.line) (some_same (slice_get lines at) m l here (ap (slice_get lines) (sym (eqb-true t.definition at e)) ∙ there)) ∙ is in
            let none : fault_at at m.line ≡ None = ap (fault_at at) one in
            cond_none (has done at) (fault_at at m.line) none ∙ sym (cond_none (has (done ++ t ∷ []) at) (fault_at at m.line) none)
        | false ↦ λ other. ap (λ c. cond c (fault_at at m.line) None) (sym (not_now done t at other))
      ] refl

  plain : (done : List Turn) (t : Turn) (l : Taken) (label : Option (List ℕ)) (body : Option line.Body) (s : Settling) → slice_get lines t.definition ≡ Some l → l.line ≡ line.Statement label body
      → Standing done s → Standing (done ++ t ∷ []) s
  plain done t l label body s there is stands = record {
    found = λ x. stands.found x ∙ found_plain done t l label body there is x (kind_of_name names x) refl;
    statements = stands.statements;
    many = stands.many;
    faults = λ at m here. stands.faults at m here ∙ ap Some (fault_plain done t l label body there is at m here);
  }

  -- a line that defines a name by EQU
  found_given : (done : List Turn) (t : Turn) (l : Taken) (name : List ℕ) (e : ExpressionItems) (m : Meaning) → slice_get lines t.definition ≡ Some l → l.line ≡ line.Equ name e → m ≡ last t.definition
      → (x : List ℕ) (k : Option Kind) → kind_of_name names x ≡ k → option_or (stood done x k) (cond (bytes_eq x name) (Some m) None) ≡ stood (done ++ t ∷ []) x k
  found_given done t l name e m there is worth x None k =
      elim (bytes_eq x name) as (λ c. bytes_eq x name ≡ c → cond c (Some m) None ≡ None) [
        | true ↦ λ same. absurd (some_none (kind_of_name names x) (Kind.Equ t.definition) (ap (kind_of_name names) ((bytes_eq-Decides x name).0 same) ∙ known.each t.definition l name e there is) k)
        | false ↦ λ other. refl
      ] refl
  found_given done t l name e m there is worth x (Some (Kind.Label a)) k = refl
  found_given done t l name e m there is worth x (Some Kind.External) k = refl
  found_given done t l name e m there is worth x (Some (Kind.Equ b)) k =
      elim (t.definition == b) as (λ c. (t.definition == b) ≡ c → option_or (stood done x (Some (Kind.Equ b))) (cond (bytes_eq x name) (Some m) None) ≡ stood (done ++ t ∷ []) x (Some (Kind.Equ b))) [
        | true ↦ λ here.
            let same_at : t.definition ≡ b = eqb-true t.definition b here in
            let g = known.by x b k in
            let one : l ≡ g.0 = some_same (slice_get lines t.definition) l g.0 there (ap (slice_get lines) same_at ∙ g.1) in
            let same : x ≡ name = equ_name l.line x name g.2.0 e (ap (λ n. n.line) one ∙ g.2.1) is in
            let now : has (done ++ t ∷ []) b ≡ true = ap (has (done ++ t ∷ [])) (sym same_at) ∙ has_now done t in
            by_had (has done b) (bytes_eq x name) (ap (bytes_eq x) (sym same) ∙ bytes_self x) m (last b) (worth ∙ ap last same_at) ∙ ap (λ c. cond c (Some (last b)) None) (sym now)
        | false ↦ λ other.
            let differs : bytes_eq x name ≡ false = not_same x name (λ same. apart t.definition b other (equ_same (kind_of_name names x) t.definition b (ap (kind_of_name names) same ∙ known.each t.definition l name e there is) k)) in
            ap (λ c. option_or (stood done x (Some (Kind.Equ b))) (cond c (Some m) None)) differs ∙ or_none (stood done x (Some (Kind.Equ b))) ∙ ap (λ c. cond c (Some (last b)) None) (sym (not_now done t b other))
      ] refl
    where
      by_had : (had same : Bool) → same ≡ true → (m last : Meaning) → m ≡ last → option_or (cond had (Some last) None) (cond same (Some m) None) ≡ Some last
      by_had true same is m last e = refl
      by_had false same is m last e = ap (λ c. cond c (Some m) None) is ∙ ap Some e

      or_none : (o : Option Meaning) → option_or o None ≡ o
      or_none None = refl
      or_none (Some a) = refl

      not_same : (x name : List ℕ) → (x ≡ name → ⊥) → bytes_eq x name ≡ false
      not_same x name no_way = elim (bytes_eq x name) as (λ c. bytes_eq x name ≡ c → c ≡ false) [
        | true ↦ λ same. absurd (no_way ((bytes_eq-Decides x name).0 same))
        | false ↦ λ other. refl
      ] refl

  fault_given : (done : List Turn) (t : Turn) (l : Taken) (s : Settling) (why : Option EquFault) → Standing done s → slice_get lines t.definition ≡ Some l → why ≡ fault_at t.definition l.line
      → (at : ℕ) (m : Taken) → slice_get lines at ≡ Some m → slice_get (set s.faults.items t.definition why) at ≡ Some (cond (has (done ++ t ∷ []) at) (fault_at at m.line) None)
  fault_given done t l s why stands there is at m here =
      elim (t.definition == at) as (λ c. (t.definition == at) ≡ c → slice_get (set s.faults.items t.definition why) at ≡ Some (cond (has (done ++ t ∷ []) at) (fault_at at m.line) None)) [
        | true ↦ λ e.
            let same_at : t.definition ≡ at = eqb-true t.definition at e in
            let one : l ≡ m = some_same (slice_get lines at) l m (ap (slice_get lines) (sym same_at) ∙ there) here in
            let now : has (done ++ t ∷ []) at ≡ true = ap (has (done ++ t ∷ [])) (sym same_at) ∙ has_now done t in
            let room = slice_get_within lines t.definition l there in
            ap (slice_get (set s.faults.items t.definition why)) (sym same_at) ∙ get_set_here s.faults.items t.definition why (let many = stands.many in omega (arith, many, room))
            ∙ ap Some (is ∙ ap (λ n. fault_at t.definition n.line) one ∙ ap (λ k. fault_at k m.line) same_at ∙ ap (λ c. cond c (fault_at at m.line) None) (sym now))
        | false ↦ λ other.
            get_set_there s.faults.items t.definition at why (apart t.definition at other) ∙ stands.faults at m here ∙ ap (λ c. Some (cond c (fault_at at m.line) None)) (sym (not_now done t at other))
      ] refl

  given : (done : List Turn) (t : Turn) (l : Taken) (name : List ℕ) (e : ExpressionItems) (s new : Settling) → slice_get lines t.definition ≡ Some l → l.line ≡ line.Equ name e
      → (judged names t.on_circle (here_at layout t s.names) e).0 ≡ last t.definition → (judged names t.on_circle (here_at layout t s.names) e).1 ≡ fault_at t.definition l.line
      → Takes names layout t (line.Equ name e) s new → Standing done s → Standing (done ++ t ∷ []) new
  given done t l name e s new there is worth fault (names_is, faults_is) stands = record {
    found = λ x.
        ap (λ u. found u x) names_is ∙ lookup_more (bytes_eq x) s.names.entries name (judged names t.on_circle (here_at layout t s.names) e).0
        ∙ ap (λ o. option_or o (cond (bytes_eq x name) (Some (judged names t.on_circle (here_at layout t s.names) e).0) None)) (stands.found x)
        ∙ found_given done t l name e (judged names t.on_circle (here_at layout t s.names) e).0 there is worth x (kind_of_name names x) refl;
    statements = ap (λ u. u.statements) names_is ∙ stands.statements;
    many = ap length faults_is ∙ length-set s.faults.items t.definition (judged names t.on_circle (here_at layout t s.names) e).1 ∙ stands.many;
    faults = λ at m here. ap (λ fs. slice_get fs at) faults_is ∙ fault_given done t l s (judged names t.on_circle (here_at layout t s.names) e).1 stands there fault at m here;
  }

  -- The judgement of a line is its last value.

  new_line : (q : ℕ) → q < length turns → has (take q turns) (turn_at turns q).definition ≡ false
  new_line q room = not_had (has (take q turns) (turn_at turns q).definition) refl
    where
      not_had : (b : Bool) → has (take q turns) (turn_at turns q).definition ≡ b → b ≡ false
      not_had false is = refl
      not_had true is = absurd ((known.order.in_order q (record { definition = 0; on_circle = false }) room).once (had_contains (take q turns) (turn_at turns q).definition is))

  judged_last : (q n : ℕ) (s : Settling) (e : ExpressionItems) → Standing (take q turns) s → q < length turns → q < n → items_at lines (turn_at turns q).definition ≡ e
      → (meaning_by (fault_by names (turn_at turns q).on_circle (here_at layout (turn_at turns q) s.names) e) (equated (here_at layout (turn_at turns q) s.names) (source_tree e))
      ≡ equ_meaning names (is_marked_circular turns) (table_at layout (after_rounds n names lines (is_marked_circular turns) layout) (turn_at turns q).definition) (turn_at turns q).definition e)
      × (fault_by names (turn_at turns q).on_circle (here_at layout (turn_at turns q) s.names) e
      ≡ equ_fault names (is_marked_circular turns) (table_at layout (after_rounds n names lines (is_marked_circular turns) layout) (turn_at turns q).definition) (turn_at turns q).definition e)
  judged_last q zero s e stands room lt items = absurd (omega (arith, lt))
  judged_last q (suc m) s e stands room lt items =
      let t : Turn = turn_at turns q in
      let at : ℕ = t.definition in
      let r : Result Meaning ExprFault = equated (here_at layout t s.names) (source_tree e) in
      let r-2 : Result Meaning ExprFault = equated (table_at layout (after_rounds (suc m) names lines (is_marked_circular turns) layout) at) (source_tree e) in
      let same : t.on_circle ≡ false → r ≡ r-2 = λ off. same_worth names lines layout turns known q m s e stands room (omega (arith, lt)) items off in
      let u : Option EquFault = if_so EquFault.Undefined (not (list_all (is_named names) e)) in
      let u-2 : u ≡ undefined names e = ap (if_so EquFault.Undefined) (all_named names e) in
      let c : t.on_circle ≡ is_marked_circular turns at = told_at (lines_named names lines) turns known.order.in_order q room in (
        circle_meaning u t.on_circle r r-2 same ∙ ap (λ v. meaning_by (first (v ∷ if_so EquFault.EquCircle t.on_circle ∷ expression_fault_of r-2 ∷ [])) r-2) u-2
            ∙ ap (λ b. meaning_by (first (undefined names e ∷ if_so EquFault.EquCircle b ∷ expression_fault_of r-2 ∷ [])) r-2) c,
        circle_fault u t.on_circle r r-2 same ∙ ap (λ v. first (v ∷ if_so EquFault.EquCircle t.on_circle ∷ expression_fault_of r-2 ∷ [])) u-2
            ∙ ap (λ b. first (undefined names e ∷ if_so EquFault.EquCircle b ∷ expression_fault_of r-2 ∷ [])) c,
      )

  -- What holds after one turn more.
  pub turned : (q : ℕ) (l : Taken) (s new : Settling) → q < length turns → slice_get lines (turn_at turns q).definition ≡ Some l → Standing (take q turns) s
      → Takes names layout (turn_at turns q) l.line s new → Standing (take (q + 1) turns) new
  turned q l s new room there stands takes =
      subst (λ ts. Standing ts new) (sym (take_more turns q (record { definition = 0; on_circle = false }) room)) (by_line l.line refl takes)
    where
      by_line : (ln : Line) → l.line ≡ ln → Takes names layout (turn_at turns q) ln s new → Stands names lines (is_marked_circular turns) layout (take q turns ++ turn_at turns q ∷ []) new
      by_line (line.Statement label body) is same = subst (Stands names lines (is_marked_circular turns) layout (take q turns ++ turn_at turns q ∷ [])) (sym same) (plain (take q turns) (turn_at turns q) l label body s there is stands)
      by_line (line.Equ name e) is done =
          let items : items_at lines (turn_at turns q).definition ≡ e = items_there lines (turn_at turns q).definition l there ∙ ap equ_items is in
          let many = known.order.many in
          let now = judged_last q (length lines) s e stands room (omega (arith, many, room)) items in
          let after = judged_last q (suc (length lines)) s e stands room (omega (arith, many, room)) items in
          given (take q turns) (turn_at turns q) l name e s new there is
          (now.0 ∙ ap (λ i. equ_meaning names (is_marked_circular turns) (table_at layout (after_rounds (length lines) names lines (is_marked_circular turns) layout) (turn_at turns q).definition) (turn_at turns q).definition i) (sym items))
          (after.1 ∙ ap (equ_line_fault names (is_marked_circular turns) layout (name_meanings names lines (is_marked_circular turns) layout) (turn_at turns q).definition) (sym is))
          done stands

  -- A line can be settled when it has its turn.
  pub can_take : (q : ℕ) (l : Taken) (s : Settling) → q < length turns → slice_get lines (turn_at turns q).definition ≡ Some l → Standing (take q turns) s → CanTake names (turn_at turns q) l.line s
  can_take q l s room there stands = by_line l.line refl
    where
      known_item : (e : ExpressionItems) → items_at lines (turn_at turns q).definition ≡ e → (turn_at turns q).on_circle ≡ false → (i : Item Operand) → Contains e i → is_named names i ≡ true → is_known s.names i ≡ true
      known_item e items off (Item.Leaf (Number n)) among named = refl
      known_item e items off (Item.Leaf Here) among named = refl
      known_item e items off (Item.Unary op) among named = refl
      known_item e items off (Item.Binary op) among named = refl
      known_item e items off (Item.Leaf (Name x)) among named = ap is_some (stands.found x) ∙ by_kind (kind_of_name names x) refl named
        where
          by_kind : (k : Option Kind) → kind_of_name names x ≡ k → is_some k ≡ true → is_some (so_far (has (take q turns)) (final names lines (is_marked_circular turns) layout) names layout x k) ≡ true
          by_kind None k is = absurd cc
          by_kind (Some (Kind.Label a)) k is = refl
          by_kind (Some Kind.External) k is = refl
          by_kind (Some (Kind.Equ b)) k is =
              let uses : Contains (items_at lines (turn_at turns q).definition) (Item.Leaf (Name x)) = rw items among in
              ap (λ c. is_some (cond c (Some (final names lines (is_marked_circular turns) layout b)) None))
              (contains_had (take q turns) b ((known.order.in_order q (record { definition = 0; on_circle = false }) room).behind off b (used_line names (items_at lines (turn_at turns q).definition) x b uses k)))

      by_line : (ln : Line) → l.line ≡ ln → CanTake names (turn_at turns q) ln s
      by_line (line.Statement label body) is = tt
      by_line (line.Equ name e) is = (
        let lt = slice_get_within lines (turn_at turns q).definition l there in let many = stands.many in omega (arith, lt, many),
        stands.found name ∙ ap (so_far (has (take q turns)) (final names lines (is_marked_circular turns) layout) names layout name) (known.each (turn_at turns q).definition l name e there is)
            ∙ ap (λ c. cond c (Some (final names lines (is_marked_circular turns) layout (turn_at turns q).definition)) None) (new_line q room),
        λ all off k d lt. known_item e (items_there lines (turn_at turns q).definition l there ∙ ap equ_items is) off (slice_index_or e k d) (k, lt, get_or_default e k (slice_index_or e k d) d lt) (AllPass-from_list_all (is_named names) e all k d lt),
      )

-- When all lines have had their turn.

numbered_faults : (g : ℕ → Line → Option EquFault) (n : ℕ) (ls : List Taken) (fs : List (Option EquFault)) → length fs ≡ length ls
    → ((k : ℕ) (l : Taken) → slice_get ls k ≡ Some l → slice_get fs k ≡ Some (g (n + k) l.line))
    → numbered ls fs ≡ map (λ l. option_map (λ why. (l.1.number, why)) (g l.0 l.1.line)) (enumerate_from n ls)
numbered_faults g n [] [] len each = refl
numbered_faults g n [] (f ∷ fs) len each = refl
numbered_faults g n (l ∷ ls) [] len each = absurd (omega (arith, len))
numbered_faults g n (l ∷ ls) (f ∷ fs) len each =
    let first_there : Some f ≡ Some (g (n + 0) l.line) = each 0 l refl in
    let first_so : f ≡ g (n + 0) l.line = cc in
    let first_is : f ≡ g n l.line = first_so ∙ ap (λ k. g k l.line) (omega arith) in
    ap (λ h. option_map (λ why. (l.number, why)) h ∷ numbered ls fs) first_is
    ∙ ap (λ rest. option_map (λ why. (l.number, why)) (g n l.line) ∷ rest)
    (numbered_faults g (n + 1) ls fs (omega (arith, len)) (λ k m there. each (suc k) m there ∙ ap (λ j. Some (g j m.line)) (omega arith)))

module _ (names : Names) (lines : List Taken) (layout : Layout) (turns : List Turn) (known : Lines_in_order names lines turns) where
  all_had : (at : ℕ) → at < length lines → has turns at ≡ true
  all_had at lt = contains_had turns at (known.order.all at lt)

  found_last : (x : List ℕ) (k : Option Kind) → kind_of_name names x ≡ k
      → so_far (has turns) (final names lines (is_marked_circular turns) layout) names layout x k ≡ option_map (meaning names lines (is_marked_circular turns) layout (after_rounds (length lines) names lines (is_marked_circular turns) layout) x) k
  found_last x None k = refl
  found_last x (Some (Kind.Label a)) k = refl
  found_last x (Some Kind.External) k = refl
  found_last x (Some (Kind.Equ b)) k =
      ap (λ c. cond c (Some (final names lines (is_marked_circular turns) layout b)) None) (all_had b (let g = known.by x b k in slice_get_within lines b g.0 g.1))

  -- the error of each line by itself
  pub all_faults : (s : Settling) → Stands names lines (is_marked_circular turns) layout turns s → (k : ℕ) (l : Taken) → slice_get lines k ≡ Some l
      → slice_get s.faults.items k ≡ Some (equ_line_fault names (is_marked_circular turns) layout (name_meanings names lines (is_marked_circular turns) layout) k l.line)
  all_faults s stands k l there =
      stands.faults k l there ∙ ap (λ c. Some (cond c (equ_line_fault names (is_marked_circular turns) layout (name_meanings names lines (is_marked_circular turns) layout) k l.line) None)) (all_had k (slice_get_within lines k l there))

  pub all_settled : (s : Settling) → Stands names lines (is_marked_circular turns) layout turns s
      → ((x : List ℕ) → found s.names x ≡ lookup (bytes_eq x) (name_meanings names lines (is_marked_circular turns) layout)) × (first (numbered lines s.faults.items) ≡ first_equ_fault names lines (is_marked_circular turns) layout)
  all_settled s stands = (
    λ x. stands.found x ∙ found_last x (kind_of_name names x) refl ∙ sym (found_after (length lines) names lines (is_marked_circular turns) layout x),
    ap first (numbered_faults (equ_line_fault names (is_marked_circular turns) layout (name_meanings names lines (is_marked_circular turns) layout)) 0 lines s.faults.items stands.many
        (λ k l there. all_faults s stands k l there
        ∙ ap (λ j. Some (equ_line_fault names (is_marked_circular turns) layout (name_meanings names lines (is_marked_circular turns) layout) j l.line)) (omega arith))),
  )

-- When no line has had its turn.
none_faults : (n k : ℕ) (f : Option EquFault) → k < n → slice_get (replicate n f) k ≡ Some f
none_faults zero k f lt = absurd (omega (arith, lt))
none_faults (suc n) zero f lt = refl
none_faults (suc n) (suc k) f lt = none_faults n k f (omega (arith, lt))

place_first : (names : Names) (lines : List Taken) (circle : ℕ → Bool) (layout : Layout) (x : List ℕ) (k : Option Kind) → place_by names layout x k ≡ so_far (has []) (final names lines circle layout) names layout x k
place_first names lines circle layout x None = refl
place_first names lines circle layout x (Some (Kind.Label a)) = refl
place_first names lines circle layout x (Some Kind.External) = refl
place_first names lines circle layout x (Some (Kind.Equ b)) = refl

pub none_settled : (names : Names) (lines : List Taken) (circle : ℕ → Bool) (layout : Layout) (s : Settling) → IsDistinct bytes_eq (map (λ d. d.0) names) → HasPlaces names layout s.names
    → s.faults.items ≡ replicate (length lines) None → Stands names lines circle layout [] s
none_settled names lines circle layout s distinct places none = record {
  found = λ x. ap (lookup (bytes_eq x)) places.entries ∙ placed_lookup names layout names x distinct ∙ place_first names lines circle layout x (kind_of_name names x);
  statements = places.statements;
  many = ap length none ∙ length-replicate (length lines) None;
  faults = λ at l there. ap (λ fs. slice_get fs at) none ∙ none_faults (length lines) at None (slice_get_within lines at l there);
}

-- The same for the lines as the code has them.

pub known_lines : (table : Names) (lines : List SourceLine) (turns : List Turn) → table ≡ defined.names (lines_of lines) → first_fault_of_names (lines_of lines) ≡ None → IsOrder (length lines) (lines_named table (lines_of lines)) turns
    → ((ls : List Taken) (name : List ℕ) (at : ℕ) → kind_of_name (defined.names ls) name ≡ Some (Kind.Equ at) → (l : Taken) × (slice_get ls at ≡ Some l) × ((e : ExpressionItems) × (l.line ≡ line.Equ name e)))
    → ((ls : List Taken) (at : ℕ) (l : Taken) (name : List ℕ) (e : ExpressionItems) → first_fault_of_names ls ≡ None → slice_get ls at ≡ Some l → l.line ≡ line.Equ name e → kind_of_name (defined.names ls) name ≡ Some (Kind.Equ at))
    → Lines_in_order table (lines_of lines) turns
known_lines table lines turns is sound order by each = record {
  order = subst (λ n. IsOrder n (lines_named table (lines_of lines)) turns) (sym (length-map lines taken_of)) order;
  by = λ name at k. by (lines_of lines) name at (sym (ap (λ t. kind_of_name t name) is) ∙ k);
  each = λ at l name e there has_it. ap (λ t. kind_of_name t name) is ∙ each (lines_of lines) at l name e sound there has_it;
}

pub line_there : (lines : List SourceLine) (at : ℕ) (d : SourceLine) → at < length lines → slice_get (lines_of lines) at ≡ Some (taken_of (slice_index_or lines at d))
line_there [] at d lt = absurd (omega (arith, lt))
line_there (l ∷ ls) zero d lt = refl
line_there (l ∷ ls) (suc at) d lt = line_there ls at d (omega (arith, lt))

contains_turn : (turns : List Turn) (q : ℕ) → q < length turns → Contains (turn_definitions turns) (turn_at turns q).definition
contains_turn [] q lt = absurd (omega (arith, lt))
contains_turn (t ∷ ts) zero lt = (0, omega arith, refl)
contains_turn (t ∷ ts) (suc q) lt = (let c = contains_turn ts q (omega (arith, lt)) in (suc c.0, (let a = c.1 in omega (arith, a)), c.2))

pub turn_within : (count : ℕ) (named : ℕ → List ℕ) (turns : List Turn) (q : ℕ) → IsOrder count named turns → q < length turns → (turn_at turns q).definition < count
turn_within count named turns q order lt = order.few (turn_at turns q).definition (contains_turn turns q lt)

-- The turns mark exactly the lines that lead back to themselves.
pub tells : (names : Names) (lines : List Taken) (turns : List Turn) → IsOrder (length lines) (lines_named names lines) turns → TellsCircles names lines (is_marked_circular turns)
tells names lines turns order at lt = (
  λ is. (let r = told_true turns at is in
      subst (IsOnCircle (lines_named names lines)) r.2 ((order.in_order r.0 (record { definition = 0; on_circle = false }) r.1).circle.0 r.3)),
  λ circle. (let r = placed_turn turns (length turns) at (subst (λ ts. Contains (turn_definitions ts) at) (sym (take_all (length turns) turns (omega arith))) (order.all at lt)) in
      subst (λ k. is_marked_circular turns k ≡ true) r.3
      (told_of turns r.0 r.2 ((order.in_order r.0 (record { definition = 0; on_circle = false }) r.2).circle.1 (subst (IsOnCircle (lines_named names lines)) (sym r.3) circle)))),
)
