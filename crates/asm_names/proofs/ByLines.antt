-- The value of an expression whose names are replaced is the one that its lines give it, level by level.
use Rattle.std.proofs.Common.{◌≡◌, ◌∙◌, sym, ap, refl, subst, ℕ, zero, suc, ◌%◌, Bool, true, false, cond, List, [], ◌∷◌, Option, Some, None, Result, Ok, Err, map}
use Rattle.std.specs.List.{list_all}
use Rattle.std.specs.Map.{lookup}
use Rattle.std.specs.Option.{option_map}
use Rattle.std.specs.Str.{bytes_eq}
use Rattle.asm_parse.specs.declared.fault.ExprFault.{ExprFault}
use Rattle.asm_parse.specs.Expression.{Expression, Leaf, Prefix, Infix, postfix}
use Rattle.asm_parse.specs.Source.{Operand, Number, Name, Here}
use Rattle.asm_expr.specs.Below.{Atom, modulus, unary, binary, source_tree, tree, value}
use Rattle.asm_expr.specs.declared.meaning.Meaning.{Meaning}
use Rattle.asm_expr.specs.declared.answer.Settled.{Settled}
use Rattle.asm_expr.specs.declared.unknown.Unknown.{Unknown}
use Rattle.asm_expr.specs.Distances.{Step}
use Rattle.asm_expr.specs.Names.{AreCounted, IsCounted, Table, found}
use Rattle.asm_expr.specs.Equating.{constant_of, equated, meaning_of}
use Rattle.asm_expr.specs.Settling.{IsWorthOf, expression_size, is_constant_item, known, meant, replaced, standing}
use Rattle.asm_expr.proofs.Equates.{counted, equated_as}
use Rattle.asm_expr.proofs.Worths.{worth_of_settled}
use Rattle.asm_names.specs.declared.kind.Kind.{Kind}
use Rattle.asm_names.specs.declared.equ_fault.EquFault.{EquFault}
use Rattle.asm_names.specs.Circles.{items_at}
use Rattle.asm_names.specs.Layout.{Layout, next_at}
use Rattle.asm_names.specs.Levels.{HasValue, number, here, label, external, equ, one_operand, two_operands}
use Rattle.asm_names.specs.Lines.{Taken}
use Rattle.asm_names.specs.Meanings.{after_rounds, equ_fault, external_ref, meaning, meaning_by, table_at}
use Rattle.asm_names.specs.Names.{Names, kind_of_name}
use Rattle.asm_names.proofs.Rounds.{found_after}

-- What an expression is whose parts are all known.

not_unknown : (what : Unknown) (whole : Expression Atom) → standing (Settled.Unknown what) ≡ known whole → ⊥
not_unknown what (Leaf (Atom.Number n)) is = cc
not_unknown what (Leaf (Atom.Ref r)) is = cc
not_unknown what (Prefix op a) is = cc
not_unknown what (Infix op a b) is = cc

one_number : (n : ℕ) (whole : Expression Atom) → known (Leaf (Atom.Number n)) ≡ known whole → Leaf (Atom.Number n) ≡ whole
one_number n (Leaf (Atom.Number m)) is = let same : n ≡ m = cc in ap (λ k. Leaf (Atom.Number k)) same
one_number n (Leaf (Atom.Ref r)) is = cc
one_number n (Prefix op a) is = cc
one_number n (Infix op a b) is = cc

one_ref : (r : ℕ) (whole : Expression Atom) → known (Leaf (Atom.Ref r)) ≡ known whole → Leaf (Atom.Ref r) ≡ whole
one_ref r (Leaf (Atom.Number m)) is = cc
one_ref r (Leaf (Atom.Ref q)) is = let same : r ≡ q = cc in ap (λ k. Leaf (Atom.Ref k)) same
one_ref r (Prefix op a) is = cc
one_ref r (Infix op a b) is = cc

one_known : (e whole : Expression Atom) → known e ≡ known whole → e ≡ whole
one_known (Leaf (Atom.Number n)) whole is = one_number n whole is
one_known (Leaf (Atom.Ref r)) whole is = one_ref r whole is
one_known (Prefix op a) (Prefix other b) is =
    let same : op ≡ other = cc in
    let inner : known a ≡ known b = cc in
    ap (λ o. Prefix o a) same ∙ ap (λ x. Prefix other x) (one_known a b inner)
one_known (Prefix op a) (Leaf (Atom.Number n)) is = cc
one_known (Prefix op a) (Leaf (Atom.Ref r)) is = cc
one_known (Prefix op a) (Infix other b c) is = cc
one_known (Infix op a b) (Infix other c d) is =
    let same : op ≡ other = cc in
    let first : known a ≡ known c = cc in
    let second : known b ≡ known d = cc in
    ap (λ o. Infix o a b) same ∙ ap (λ x. Infix other x b) (one_known a c first) ∙ ap (λ x. Infix other c x) (one_known b d second)
one_known (Infix op a b) (Leaf (Atom.Number n)) is = cc
one_known (Infix op a b) (Leaf (Atom.Ref r)) is = cc
one_known (Infix op a b) (Prefix other c) is = cc

-- After any number of rounds each name stands for at least as many terms and operators as it has items.

none_known : (p : List ℕ → Bool) (names : Names) (what : Meaning) → lookup p (map (λ d. (d.0, Meaning.Faulty)) names) ≡ Some what → what ≡ Meaning.Faulty
none_known p [] what is = cc
none_known p (d ∷ ds) what is =
    elim (p d.0) as (λ b. cond b (Some Meaning.Faulty) (lookup p (map (λ e. (e.0, Meaning.Faulty)) ds)) ≡ Some what → what ≡ Meaning.Faulty) [
      | true ↦ λ found. cc
      | false ↦ λ more. none_known p ds what more
    ] is

constant_counted : (s : Settled) → IsCounted (constant_of s)
constant_counted (Settled.Known items) = tt
constant_counted (Settled.Unknown Unknown.Anything) = tt
constant_counted (Settled.Unknown Unknown.Number) = tt
constant_counted (Settled.Unknown Unknown.Varies) = tt
constant_counted (Settled.Unknown Unknown.VariesInByte) = tt

equated_counted : (t : Table) → AreCounted t → (e : Expression Operand) (what : Meaning) → equated t e ≡ Ok what → IsCounted what
equated_counted t c e what is =
    let s = equated_as t e what is in
    subst IsCounted (sym s.2)
    (elim (list_all (is_constant_item t) (postfix e)) as (λ b. IsCounted (cond b (constant_of s.0) (Meaning.Equ (record { settled = s.0; size = expression_size t e })))) [
      | true ↦ constant_counted s.0
      | false ↦ counted t c e s.0 (expression_size t e) (worth_of_settled t c e s.0 s.1) refl
    ])

meaning_counted : (t : Table) → AreCounted t → (e : Expression Operand) (fault : Option EquFault) (r : Result Meaning ExprFault) → equated t e ≡ r → IsCounted (meaning_by fault r)
meaning_counted t c e None (Ok what) is = equated_counted t c e what is
meaning_counted t c e None (Err why) is = tt
meaning_counted t c e (Some why) r is = tt

module _ (names : Names) (lines : List Taken) (circle : ℕ → Bool) (layout : Layout) where
  abbrev table : ℕ → ℕ → Table
  table n at = table_at layout (after_rounds n names lines circle layout) at

  abbrev items : ℕ → Expression Operand
  items at = source_tree (items_at lines at)

  abbrev fault_in : ℕ → ℕ → Option EquFault
  fault_in n at = equ_fault names circle (table n at) at (items_at lines at)

  kind_counted : (n : ℕ) → ((at : ℕ) → AreCounted (table n at)) → (name : List ℕ) (kind : Option Kind) (what : Meaning)
      → option_map (meaning names lines circle layout (after_rounds n names lines circle layout) name) kind ≡ Some what → IsCounted what
  kind_counted n c name None what is = cc
  kind_counted n c name (Some (Kind.Label at)) what is = let same : Meaning.Label (next_at layout at) ≡ what = cc in subst IsCounted same tt
  kind_counted n c name (Some Kind.External) what is = let same : Meaning.External (external_ref names layout name) ≡ what = cc in subst IsCounted same tt
  kind_counted n c name (Some (Kind.Equ at)) what is =
      let same : meaning_by (fault_in n at) (equated (table n at) (items at)) ≡ what = cc in
      subst IsCounted same (meaning_counted (table n at) (c at) (items at) (fault_in n at) (equated (table n at) (items at)) refl)

  are_counted : (n at : ℕ) → AreCounted (table n at)
  are_counted zero at name what is = let faulty = none_known (bytes_eq name) names what is in subst IsCounted (sym faulty) tt
  are_counted (suc n) at name what is = kind_counted n (are_counted n) name (kind_of_name names name) what (sym (found_after n names lines circle layout name) ∙ is)

  module _ (places : ℕ → ℕ) (steps : Step layout.statements places) where
    abbrev Has : ℕ → Expression Operand → ℕ → Type 0
    Has at e n = HasValue names lines layout places at e n

    -- With its names replaced the expression is one of known parts, and has this value.
    record Stands (t : Table) (e : Expression Operand) (n : ℕ) : Type 0 where
      whole : Expression Atom
      is : replaced t e ≡ known whole
      same : value places whole ≡ n

    constant_stands : (t : Table) → t.statements ≡ layout.statements → (e : Expression Operand) (s : Settled) → IsWorthOf t e s → list_all (is_constant_item t) (postfix e) ≡ true
        → (whole : Expression Atom) → meant (Some (constant_of s)) ≡ known whole → Stands t e (value places whole)
    constant_stands t at e (Settled.Known xs) w constant whole is =
        let one = (w.constant constant).1 in
        let same : Leaf (Atom.Number (value (λ r. 0) (tree xs))) ≡ whole = one_number (value (λ r. 0) (tree xs)) whole is in
        let anywhere : value places (tree xs) ≡ value (λ r. 0) (tree xs) = ap (λ i. value places (tree i)) one ∙ sym (ap (λ i. value (λ r. 0) (tree i)) one) in
        record {
          whole = w.whole;
          is = w.known;
          same = sym (w.value places (subst (λ s. Step s places) (sym at) steps)) ∙ anywhere ∙ ap (value places) same;
        }
    constant_stands t at e (Settled.Unknown Unknown.Anything) w constant whole is = absurd (not_unknown Unknown.Anything whole is)
    constant_stands t at e (Settled.Unknown Unknown.Number) w constant whole is = absurd (not_unknown Unknown.Number whole is)
    constant_stands t at e (Settled.Unknown Unknown.Varies) w constant whole is = absurd (not_unknown Unknown.Number whole is)
    constant_stands t at e (Settled.Unknown Unknown.VariesInByte) w constant whole is = absurd (not_unknown Unknown.Number whole is)

    equ_stands : (t : Table) → t.statements ≡ layout.statements → (e : Expression Operand) (s : Settled) → IsWorthOf t e s → (whole : Expression Atom) → standing s ≡ known whole → Stands t e (value places whole)
    equ_stands t at e (Settled.Known xs) w whole is = record {
      whole = w.whole;
      is = w.known;
      same = sym (w.value places (subst (λ s. Step s places) (sym at) steps)) ∙ ap (value places) (one_known (tree xs) whole is);
    }
    equ_stands t at e (Settled.Unknown what) w whole is = absurd (not_unknown what whole is)

    meaning_stands : (t : Table) → t.statements ≡ layout.statements → (e : Expression Operand) (s : Settled) → IsWorthOf t e s → (whole : Expression Atom)
        → meant (Some (meaning_of t e s)) ≡ known whole → Stands t e (value places whole)
    meaning_stands t at e s w whole is =
        elim (list_all (is_constant_item t) (postfix e))
        as (λ b. list_all (is_constant_item t) (postfix e) ≡ b → meant (Some (cond b (constant_of s) (Meaning.Equ (record { settled = s; size = expression_size t e })))) ≡ known whole → Stands t e (value places whole)) [
          | true ↦ λ constant now. constant_stands t at e s w constant whole now
          | false ↦ λ _ now. equ_stands t at e s w whole now
        ] refl is

    line_stands : (t : Table) → AreCounted t → t.statements ≡ layout.statements → (e : Expression Operand) (fault : Option EquFault) (r : Result Meaning ExprFault) → equated t e ≡ r
        → (whole : Expression Atom) → meant (Some (meaning_by fault r)) ≡ known whole → Stands t e (value places whole)
    line_stands t c at e None (Ok what) is whole now =
        let s = equated_as t e what is in
        meaning_stands t at e s.0 (worth_of_settled t c e s.0 s.1) whole (ap (λ m. meant (Some m)) (sym s.2) ∙ now)
    line_stands t c at e None (Err why) is whole now = absurd (not_unknown Unknown.Anything whole now)
    line_stands t c at e (Some why) r is whole now = absurd (not_unknown Unknown.Anything whole now)

    -- Each name has the value of what it stands for after some rounds, if that has a value.
    abbrev NamesHave : ℕ → Type 0
    NamesHave n = (at : ℕ) (name : List ℕ) (whole : Expression Atom) → meant (found (table n at) name) ≡ known whole → Has at (Leaf (Name name)) (value places whole)

    -- So has each expression.
    abbrev ExpressionsHave : ℕ → Type 0
    ExpressionsHave n = (at : ℕ) (e : Expression Operand) (whole : Expression Atom) → replaced (table n at) e ≡ known whole → Has at e (value places whole)

    walk : (n : ℕ) → NamesHave n → ExpressionsHave n
    walk n have at (Leaf (Number k)) whole is = subst (λ w. Has at (Leaf (Number k)) (value places w)) (one_number k whole is) number
    walk n have at (Leaf (Name name)) whole is = have at name whole is
    walk n have at (Leaf Here) whole is = subst (λ w. Has at (Leaf Here) (value places w)) (one_ref (next_at layout at) whole is) here
    walk n have at (Prefix op a) (Prefix other b) is =
        let same : op ≡ other = cc in
        let inner : replaced (table n at) a ≡ known b = cc in
        subst (λ o. Has at (Prefix op a) (unary o (value places b))) same (one_operand (walk n have at a b inner))
    walk n have at (Prefix op a) (Leaf (Atom.Number m)) is = cc
    walk n have at (Prefix op a) (Leaf (Atom.Ref r)) is = cc
    walk n have at (Prefix op a) (Infix other b c) is = cc
    walk n have at (Infix op a b) (Infix other c d) is =
        let same : op ≡ other = cc in
        let first : replaced (table n at) a ≡ known c = cc in
        let second : replaced (table n at) b ≡ known d = cc in
        subst (λ o. Has at (Infix op a b) (binary o (value places c) (value places d))) same (two_operands (walk n have at a c first) (walk n have at b d second))
    walk n have at (Infix op a b) (Leaf (Atom.Number m)) is = cc
    walk n have at (Infix op a b) (Leaf (Atom.Ref r)) is = cc
    walk n have at (Infix op a b) (Prefix other c) is = cc

    none_stand : (m : Option Meaning) → ((what : Meaning) → m ≡ Some what → what ≡ Meaning.Faulty) → (whole : Expression Atom) → meant m ≡ known whole → ⊥
    none_stand None faulty whole is = not_unknown Unknown.Anything whole is
    none_stand (Some what) faulty whole is = not_unknown Unknown.Anything whole (ap (λ w. meant (Some w)) (sym (faulty what refl)) ∙ is)

    kind_has : (n : ℕ) → ExpressionsHave n → (at : ℕ) (name : List ℕ) (kind : Option Kind) → kind_of_name names name ≡ kind → (whole : Expression Atom)
        → meant (option_map (meaning names lines circle layout (after_rounds n names lines circle layout) name) kind) ≡ known whole → Has at (Leaf (Name name)) (value places whole)
    kind_has n have at name None is whole now = absurd (not_unknown Unknown.Anything whole now)
    kind_has n have at name (Some (Kind.Label line)) is whole now = subst (λ w. Has at (Leaf (Name name)) (value places w)) (one_ref (next_at layout line) whole now) (label is)
    kind_has n have at name (Some Kind.External) is whole now = subst (λ w. Has at (Leaf (Name name)) (value places w)) (one_ref (external_ref names layout name) whole now) (external is)
    kind_has n have at name (Some (Kind.Equ line)) is whole now =
        let s = line_stands (table n line) (are_counted n line) refl (items line) (fault_in n line) (equated (table n line) (items line)) refl whole now in
        equ is (subst (λ v. Has line (items line) v) s.same (have line (items line) s.whole s.is))

    pub has_value : (n : ℕ) → ExpressionsHave n
    has_value zero = walk zero (λ at name whole is. absurd (none_stand (found (table zero at) name) (none_known (bytes_eq name) names) whole is))
    has_value (suc n) = walk (suc n) (λ at name whole is. kind_has n (has_value n) at name (kind_of_name names name) refl whole (ap meant (sym (found_after n names lines circle layout name)) ∙ is))

-- An expression has at most one value.
pub one_value : (names : Names) (lines : List Taken) (layout : Layout) (places : ℕ → ℕ) (at : ℕ) (e : Expression Operand) (m n : ℕ)
    → HasValue names lines layout places at e m → HasValue names lines layout places at e n → m ≡ n
one_value names lines layout places at (Leaf (Number k)) _ _ number number = refl
one_value names lines layout places at (Leaf Here) _ _ here here = refl
one_value names lines layout places at (Leaf (Name name)) _ _ (label {line = a} is) (label {line = b} other) =
    let same : a ≡ b = cc in ap (λ l. places (next_at layout l) % modulus) same
one_value names lines layout places at (Leaf (Name name)) _ _ (label is) (external other) = absurd (cc)
one_value names lines layout places at (Leaf (Name name)) _ n (label is) (equ other b) = absurd (cc)
one_value names lines layout places at (Leaf (Name name)) _ _ (external is) (external other) = refl
one_value names lines layout places at (Leaf (Name name)) _ _ (external is) (label other) = absurd (cc)
one_value names lines layout places at (Leaf (Name name)) _ n (external is) (equ other b) = absurd (cc)
one_value names lines layout places at (Leaf (Name name)) m n (equ {line = a} is one) (equ {line = b} other two) =
    let same : a ≡ b = cc in
    one_value names lines layout places b (source_tree (items_at lines b)) m n (subst (λ l. HasValue names lines layout places l (source_tree (items_at lines l)) m) same one) two
one_value names lines layout places at (Leaf (Name name)) m _ (equ is a) (label other) = absurd (cc)
one_value names lines layout places at (Leaf (Name name)) m _ (equ is a) (external other) = absurd (cc)
one_value names lines layout places at (Prefix op a) _ _ (one_operand {n = m} one) (one_operand {n = n} two) = ap (unary op) (one_value names lines layout places at a m n one two)
one_value names lines layout places at (Infix op a b) _ _ (two_operands {m = m} {n = n} one two) (two_operands {m = p} {n = q} three four) =
    ap (λ x. binary op x n) (one_value names lines layout places at a m p one three) ∙ ap (λ x. binary op p x) (one_value names lines layout places at b n q two four)
