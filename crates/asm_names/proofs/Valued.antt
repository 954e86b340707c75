-- If no line has an error, a property holds for all names if it holds for labels and externals, and for each EQU name whenever it
-- holds for the names in its expression.
use Rattle.std.proofs.Common.{◌≡◌, ◌<◌, ◌+◌, ◌∙◌, sym, ap, refl, subst, ℕ, zero, suc, Bool, true, false, not, List, [], ◌∷◌, Option, Some, None, Result, Ok, Err, length, map, slice_get, slice_index_or, arith}
use Rattle.std.specs.Prelude.{if◌then◌else◌, is_some}
use Rattle.std.specs.List.{Contains, enumerate_from, list_all, list_any}
use Rattle.std.specs.Map.{lookup}
use Rattle.std.specs.Option.{option_map}
use Rattle.std.specs.Str.{bytes_eq}
use Rattle.std.proofs.lemmas.List.{get_or_default, take_all}
use Rattle.std.proofs.lemmas.List.Sums.{AllPass-from_list_all, list_all-from_AllPass}
use Rattle.std.proofs.lemmas.Option.{slice_get_within}
use Rattle.asm_parse.specs.declared.fault.ExprFault.{ExprFault}
use Rattle.asm_parse.specs.declared.item.Item.{Item}
use Rattle.asm_parse.specs.Expression as parsed
use Rattle.asm_parse.specs.Expression.{postfix}
use Rattle.asm_parse.specs.Source.{Operand, Number, Name, Here}
use Rattle.asm_expr.specs.declared.answer.Settled.{Settled}
use Rattle.asm_expr.specs.Below.{Atom, source_tree}
use Rattle.asm_expr.specs.declared.meaning.Meaning.{Meaning}
use Rattle.asm_expr.specs.Types.{Worth}
use Rattle.asm_expr.specs.Distances.{is_unsized}
use Rattle.asm_expr.specs.Equating.{constant_of, equated}
use Rattle.asm_expr.specs.Names.{Table, found}
use Rattle.asm_expr.specs.Origins.{is_number_item, is_number_name, is_value, is_valued_item, is_valued_name}
use Rattle.asm_expr.specs.Settling.{is_constant_item, is_constant_name, replaced, settled, expression_size, worth}
use Rattle.asm_expr.proofs.Equates.{equated_as}
use Rattle.asm_spell.specs.Line as line
use Rattle.asm_spell.specs.Line.{ExpressionItems}
use Rattle.asm_names.specs.declared.walk.Turn.{Turn}
use Rattle.asm_names.specs.Orders.Order.{turn_definitions}
use Rattle.asm_names.specs.declared.kind.Kind.{Kind}
use Rattle.asm_names.specs.Faults.{first, if_so}
use Rattle.asm_names.specs.Lines.{Taken}
use Rattle.asm_names.specs.Names.{Names, kind_of_name}
use Rattle.asm_names.specs.declared.equ_fault.EquFault.{EquFault}
use Rattle.asm_names.specs.Circles.{equ_items, items_at, lines_named}
use Rattle.asm_names.specs.Layout.{Layout, next_at}
use Rattle.asm_names.specs.Meanings.{after_rounds, name_meanings, equ_fault, external_ref, first_equ_fault, equ_line_fault, meaning, meaning_by, table_at, undefined, expression_fault_of}
use Rattle.asm_names.specs.Settles.{is_marked_circular}
use Rattle.asm_names.specs.Private.Judged.{is_named}
use Rattle.asm_names.proofs.Rounds.{found_after, placed_turn, read_names, round_value, turn_at, used_line}
use Rattle.asm_names.proofs.Turning.{Lines_in_order, all_named, items_there, kept, told_at}

-- If there is no first error, no line has one.
none_before : {A : Type 0} (f : ℕ × Taken → Option A) (n : ℕ) (ls : List Taken) → first (map f (enumerate_from n ls)) ≡ None → (k : ℕ) (l : Taken) → slice_get ls k ≡ Some l → f (n + k, l) ≡ None
none_before f n [] none k l there = cc
none_before f n (m ∷ ls) none k l there =
    elim (f (n, m)) as (λ o. f (n, m) ≡ o → first (o ∷ map f (enumerate_from (n + 1) ls)) ≡ None → f (n + k, l) ≡ None) [
      | Some why ↦ λ _ bad. cc
      | None ↦ λ here rest. at k there here (λ j is. none_before f (n + 1) ls rest j l is)
    ] refl none
  where
    at : (j : ℕ) → slice_get (m ∷ ls) j ≡ Some l → f (n, m) ≡ None → ((i : ℕ) → slice_get ls i ≡ Some l → f ((n + 1) + i, l) ≡ None) → f (n + j, l) ≡ None
    at zero is here later =
        let same : m ≡ l = cc in
        let now : n + 0 ≡ n = omega arith in
        ap (λ i. f (i, l)) now ∙ ap (λ x. f (n, x)) (sym same) ∙ here
    at (suc j) is here later =
        let next : n + suc j ≡ (n + 1) + j = omega arith in
        ap (λ i. f (i, l)) next ∙ later j is

none_mapped : {A B : Type 0} (f : A → B) (o : Option A) → option_map f o ≡ None → o ≡ None
none_mapped f None is = refl
none_mapped f (Some a) is = cc

-- What holds for an EQU line without an error.
record IsSound (names : Names) (circle : Bool) (e : ExpressionItems) (r : Result Meaning ExprFault) : Type 0 where
  named : list_all (is_named names) e ≡ true
  straight : circle ≡ false
  what : Meaning
  worth : r ≡ Ok what

sound_line : (names : Names) (circle : Bool) (e : ExpressionItems) (r : Result Meaning ExprFault) → first (undefined names e ∷ if_so EquFault.EquCircle circle ∷ expression_fault_of r ∷ []) ≡ None → IsSound names circle e r
sound_line names circle e r none =
    let first_is : if_so EquFault.Undefined (not (list_all (is_named names) e)) ≡ undefined names e = ap (if_so EquFault.Undefined) (all_named names e) in
    by (list_all (is_named names) e) circle r refl refl refl (ap (λ f. first (f ∷ if_so EquFault.EquCircle circle ∷ expression_fault_of r ∷ [])) first_is ∙ none)
  where
    by : (all on : Bool) (q : Result Meaning ExprFault) → list_all (is_named names) e ≡ all → circle ≡ on → r ≡ q
        → first (if_so EquFault.Undefined (not all) ∷ if_so EquFault.EquCircle on ∷ expression_fault_of q ∷ []) ≡ None → IsSound names circle e r
    by false on q is-all is-on is-q bad = cc
    by true true q is-all is-on is-q bad = cc
    by true false (Err why) is-all is-on is-q bad = cc
    by true false (Ok what) is-all is-on is-q good = record { named = is-all; straight = is-on; what = what; worth = is-q }

-- an element satisfies a test that all satisfy
passes : {A : Type 0} (f : A → Bool) (xs : List A) (x : A) → list_all f xs ≡ true → Contains xs x → f x ≡ true
passes f xs x all (k, lt, e) = subst (λ y. f y ≡ true) e (AllPass-from_list_all f xs all k x lt)

-- all elements satisfy a test that each satisfies
all_pass : (f : Item Operand → Bool) (xs : List (Item Operand)) → ((i : Item Operand) → Contains xs i → f i ≡ true) → list_all f xs ≡ true
all_pass f xs each = list_all-from_AllPass f xs (λ k d lt. each (slice_index_or xs k d) (k, lt, get_or_default xs k (slice_index_or xs k d) d lt))

-- each name in the items stands for something with the property
abbrev NamesAre : (Meaning → Type 0) → Table → List (Item Operand) → Type 0
NamesAre P t items = (x : List ℕ) → Contains items (Item.Leaf (Name x)) → (m : Meaning) × (found t x ≡ Some m) × P m

-- an expression has the property if each name in it stands for something that has it
abbrev Passes : (Meaning → Type 0) → Layout → Type 0
Passes P layout = (t : Table) → t.statements ≡ layout.statements → (e : parsed.Expression Operand) → NamesAre P t (postfix e) → (what : Meaning) → equated t e ≡ Ok what → P what

module _ (P : Meaning → Type 0) (names : Names) (lines : List Taken) (layout : Layout) (turns : List Turn) (known : Lines_in_order names lines turns) (none : first_equ_fault names lines (is_marked_circular turns) layout ≡ None)
    (label : (s : ℕ) → P (Meaning.Label s)) (external : (r : ℕ) → P (Meaning.External r)) (passed : Passes P layout) where
  abbrev last : ℕ → Meaning
  last at = round_value (length lines) names lines (is_marked_circular turns) layout at

  abbrev table : ℕ → Table
  table at = table_at layout (name_meanings names lines (is_marked_circular turns) layout) at

  no_fault : (at : ℕ) (l : Taken) (name : List ℕ) (e : ExpressionItems) → slice_get lines at ≡ Some l → l.line ≡ line.Equ name e → equ_fault names (is_marked_circular turns) (table at) at e ≡ None
  no_fault at l name e there is =
      let fault_at : ℕ → line.Line → Option EquFault = λ k x. equ_line_fault names (is_marked_circular turns) layout (name_meanings names lines (is_marked_circular turns) layout) k x in
      let first_line : at ≡ 0 + at = omega arith in
      ap (fault_at at) (sym is) ∙ ap (λ k. fault_at k l.line) first_line
      ∙ none_mapped (λ why. (l.number, why)) (fault_at (0 + at) l.line) (none_before (λ m. option_map (λ why. (m.1.number, why)) (fault_at m.0 m.1.line)) 0 lines none at l there)

  -- the line of a turn has the same value in the last two rounds
  settled_at : (q : ℕ) → q < length turns → last (turn_at turns q).definition ≡ round_value (suc (length lines)) names lines (is_marked_circular turns) layout (turn_at turns q).definition
  settled_at q room =
      let many = known.order.many in
      kept names lines layout turns known q room (length lines) (omega (arith, many, room)) ∙ sym (kept names lines layout turns known q room (suc (length lines)) (omega (arith, many, room)))

  -- what a name stands for in the end
  found_in : (x : List ℕ) (k : Option Kind) → kind_of_name names x ≡ k → lookup (bytes_eq x) (name_meanings names lines (is_marked_circular turns) layout)
      ≡ option_map (meaning names lines (is_marked_circular turns) layout (after_rounds (length lines) names lines (is_marked_circular turns) layout) x) k
  found_in x k is = found_after (length lines) names lines (is_marked_circular turns) layout x ∙ ap (option_map (meaning names lines (is_marked_circular turns) layout (after_rounds (length lines) names lines (is_marked_circular turns) layout) x)) is

  by_kind : (x : List ℕ) (k : Option Kind) → kind_of_name names x ≡ k → is_some k ≡ true → ((b : ℕ) → k ≡ Some (Kind.Equ b) → P (last b))
      → (m : Meaning) × (lookup (bytes_eq x) (name_meanings names lines (is_marked_circular turns) layout) ≡ Some m) × P m
  by_kind x None kind named earlier = cc
  by_kind x (Some (Kind.Label at)) kind named earlier = (Meaning.Label (next_at layout at), found_in x (Some (Kind.Label at)) kind, label (next_at layout at))
  by_kind x (Some Kind.External) kind named earlier = (Meaning.External (external_ref names layout x), found_in x (Some Kind.External) kind, external (external_ref names layout x))
  by_kind x (Some (Kind.Equ b)) kind named earlier = (last b, found_in x (Some (Kind.Equ b)) kind, earlier b refl)

  turn_holds : (bound q : ℕ) → q < bound → q < length turns → (name : List ℕ) → kind_of_name names name ≡ Some (Kind.Equ (turn_at turns q).definition) → P (last (turn_at turns q).definition)
  turn_holds zero q below room name kind = absurd (omega (arith, below))
  turn_holds (suc bound) q below room name kind =
      let at : ℕ = (turn_at turns q).definition in
      let g = known.by name at kind in
      let e : ExpressionItems = g.2.0 in
      let items : items_at lines at ≡ e = items_there lines at g.0 g.1 ∙ ap equ_items g.2.1 in
      let none_at : equ_fault names (is_marked_circular turns) (table at) at e ≡ None = no_fault at g.0 name e g.1 g.2.1 in
      let sound : IsSound names (is_marked_circular turns at) e (equated (table at) (source_tree e)) = sound_line names (is_marked_circular turns at) e (equated (table at) (source_tree e)) none_at in
      let off : (turn_at turns q).on_circle ≡ false = told_at (lines_named names lines) turns known.order.in_order q room ∙ sound.straight in
      let worth : round_value (suc (length lines)) names lines (is_marked_circular turns) layout at ≡ sound.what =
      ap (λ i. meaning_by (equ_fault names (is_marked_circular turns) (table at) at i) (equated (table at) (source_tree i))) items
      ∙ ap (λ f. meaning_by f (equated (table at) (source_tree e))) none_at ∙ ap (meaning_by None) sound.worth in
      let used : NamesAre P (table at) (postfix (source_tree e)) = λ x has.
      let among : Contains e (Item.Leaf (Name x)) = read_names e x has in
      by_kind x (kind_of_name names x) refl (passes (is_named names) e (Item.Leaf (Name x)) sound.named among)
      (λ b k. (
      let uses : Contains (lines_named names lines at) b = used_line names (items_at lines at) x b (rw items among) k in
      let r = placed_turn turns q b ((known.order.in_order q (record { definition = 0; on_circle = false }) room).behind off b uses) in
      subst (λ a. P (last a)) r.3 (turn_holds bound r.0 (let lt = r.1 in omega (arith, lt, below)) r.2 x (k ∙ ap (λ a. Some (Kind.Equ a)) (sym r.3)))
      )) in
      subst P (sym (settled_at q room ∙ worth)) (passed (table at) refl (source_tree e) used sound.what sound.worth)

  line_holds : (x : List ℕ) (b : ℕ) → kind_of_name names x ≡ Some (Kind.Equ b) → P (last b)
  line_holds x b kind =
      let g = known.by x b kind in
      let had : Contains (turn_definitions turns) b = known.order.all b (slice_get_within lines b g.0 g.1) in
      let r = placed_turn turns (length turns) b (subst (λ ts. Contains (turn_definitions ts) b) (sym (take_all (length turns) turns (omega arith))) had) in
      subst (λ a. P (last a)) r.3 (turn_holds (suc r.0) r.0 (omega arith) r.2 x (kind ∙ ap (λ a. Some (Kind.Equ a)) (sym r.3)))

  pub holds : (x : List ℕ) (what : Meaning) → lookup (bytes_eq x) (name_meanings names lines (is_marked_circular turns) layout) ≡ Some what → P what
  holds x what is =
      let m = by_kind x (kind_of_name names x) refl (found_kind (kind_of_name names x) (sym (found_in x (kind_of_name names x) refl) ∙ is)) (λ b kind. line_holds x b kind) in
      let same : Some m.0 ≡ Some what = sym m.1 ∙ is in
      let one : m.0 ≡ what = cc in
      subst P one m.2
    where
      found_kind : (k : Option Kind) → option_map (meaning names lines (is_marked_circular turns) layout (after_rounds (length lines) names lines (is_marked_circular turns) layout) x) k ≡ Some what → is_some k ≡ true
      found_kind None is = cc
      found_kind (Some kind) is = refl

-- If the name is constant, it stands for a number.
abbrev IsNumbered : Meaning → Type 0
IsNumbered what = is_constant_name (Some what) ≡ true → is_number_name (Some what) ≡ true

abbrev MakesNumbers : Type 0
MakesNumbers = (t : Table) (e : parsed.Expression Operand) → list_all (is_number_item t) (postfix e) ≡ true → (s : Settled) → settled t e ≡ Ok s
    → (n : ℕ) × (worth t (replaced t e) ≡ Worth.Number n) × (s ≡ Settled.Known (Item.Leaf (Atom.Number n) ∷ []))

number_item : (t : Table) (xs : List (Item Operand)) → NamesAre IsNumbered t xs → (i : Item Operand) → Contains xs i → is_constant_item t i ≡ true → is_number_item t i ≡ true
number_item t xs names (Item.Leaf (Number n)) among is = refl
number_item t xs names (Item.Leaf Here) among is = is
number_item t xs names (Item.Leaf (Name x)) among is = (let m = names x among in ap is_number_name m.1 ∙ m.2 (ap is_constant_name (sym m.1) ∙ is))
number_item t xs names (Item.Unary op) among is = refl
number_item t xs names (Item.Binary op) among is = refl

pub numbered : MakesNumbers → (layout : Layout) → Passes IsNumbered layout
numbered makes layout t statements e names what is constant =
    let s = equated_as t e what is in
    by (list_all (is_constant_item t) (postfix e)) refl s.0 s.1 s.2
  where
    by : (c : Bool) → list_all (is_constant_item t) (postfix e) ≡ c → (s : Settled) → settled t e ≡ Ok s → what ≡ (if c then constant_of s else Meaning.Equ (record { settled = s; size = expression_size t e })) → is_number_name (Some what) ≡ true
    by true all s was same =
        let n = makes t e (all_pass (is_number_item t) (postfix e) (λ i c. number_item t (postfix e) names i c (passes (is_constant_item t) (postfix e) i all c))) s was in
        ap (λ m. is_number_name (Some m)) (same ∙ ap constant_of n.2)
    by false all s was same = (let bad : false ≡ true = ap (λ m. is_constant_name (Some m)) (sym same) ∙ constant in cc)

-- The name stands for a value.
abbrev IsValued : Meaning → Type 0
IsValued what = is_valued_name (Some what) ≡ true

abbrev MakesValues : Type 0
MakesValues = (t : Table) (e : parsed.Expression Operand) → list_all (is_valued_item t) (postfix e) ≡ true → list_any is_unsized t.statements ≡ false → (s : Settled) → settled t e ≡ Ok s → is_value s ≡ true

valued_item : (t : Table) (xs : List (Item Operand)) → NamesAre IsValued t xs → (i : Item Operand) → Contains xs i → is_valued_item t i ≡ true
valued_item t xs names (Item.Leaf (Number n)) among = refl
valued_item t xs names (Item.Leaf Here) among = refl
valued_item t xs names (Item.Leaf (Name x)) among = (let m = names x among in ap is_valued_name m.1 ∙ m.2)
valued_item t xs names (Item.Unary op) among = refl
valued_item t xs names (Item.Binary op) among = refl

pub valued : MakesValues → (layout : Layout) → list_any is_unsized layout.statements ≡ false → Passes IsValued layout
valued makes layout sized t statements e names what is =
    let s = equated_as t e what is in
    let value : is_value s.0 ≡ true = makes t e (all_pass (is_valued_item t) (postfix e) (valued_item t (postfix e) names)) (ap (list_any is_unsized) statements ∙ sized) s.0 s.1 in
    ap (λ m. is_valued_name (Some m)) s.2 ∙ by (list_all (is_constant_item t) (postfix e)) s.0 value
  where
    by : (c : Bool) (s : Settled) → is_value s ≡ true → is_valued_name (Some (if c then constant_of s else Meaning.Equ (record { settled = s; size = expression_size t e }))) ≡ true
    by true (Settled.Known items) value = refl
    by true (Settled.Unknown what) value = cc
    by false s value = value
