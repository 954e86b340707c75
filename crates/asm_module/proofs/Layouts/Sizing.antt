-- If no line has an error and each constant is a number, each DS has a known size.
use Rattle.std.proofs.Common.{◌≡◌, ◌∙◌, ◌&&◌, ◌||◌, sym, ap, refl, ℕ, ◌+◌, zero, suc, Bool, true, false, cond, List, [], ◌∷◌, Option, Some, None, Ok}
use Rattle.std.specs.Prelude.{is_some}
use Rattle.std.specs.List.{AllPass, cons_option, list_all, list_any}
use Rattle.std.specs.Option.{option_map}
use Rattle.std.proofs.lemmas.List.Sums.{list_all-from_AllPass}
use Rattle.z80_instr.specs.declared.Branch.{Branch}
use Rattle.asm_parse.specs.declared.item.Item.{Item}
use Rattle.asm_parse.specs.Expression as expression
use Rattle.asm_parse.specs.Expression.{postfix}
use Rattle.asm_parse.specs.Source.{Operand, Number, Name, Here}
use Rattle.asm_expr.specs.declared.answer.Settled.{Settled}
use Rattle.asm_expr.specs.Below.{Atom, only, run, source_tree}
use Rattle.asm_expr.specs.declared.meaning.Meaning.{Meaning}
use Rattle.asm_expr.specs.Types.{Statement, Worth}
use Rattle.asm_expr.specs.Distances.{is_unsized}
use Rattle.asm_expr.specs.Names.{Table, found}
use Rattle.asm_expr.specs.Origins.{is_number_item, is_number_name}
use Rattle.asm_expr.specs.Settling.{is_constant_item, is_constant_name, is_known, replaced, settled, worth}
use Rattle.asm_expr.proofs.Below.{and_parts, run-one}
use Rattle.asm_spell.specs.Line as line
use Rattle.asm_spell.specs.Line.{Body, ExpressionItems, Line}
use Rattle.asm_names.specs.Lines.{Taken}
use Rattle.asm_names.specs.Names.{Names, kind_of_name}
use Rattle.asm_names.specs.Layout.{Layout}
use Rattle.asm_stmt.specs.Made.{AreDefined, Made, made, number_in, ref_of, space_size}
use Rattle.asm_stmt.specs.Sized.{IsLike, jump_sized, size_in, sized, space_sized}
use Rattle.asm_stmt.proofs.Making.{space_made, space_settled}
use Rattle.asm_module.specs.Layouts.Laid.{line_sized, may_grow, statements}
use Rattle.asm_module.specs.Module.Stated.{table_at_line, first_statement_fault, statement_fault}
use Rattle.asm_module.proofs.Modules.In_order.{fault_from}
use Rattle.asm_module.proofs.Modules.Missing_names.{all_known}
use Rattle.asm_module.proofs.Layouts.Sound.{sound_body, sound_both}

-- If a test passes for all items and for `$`, it passes for the expression of these items. (Items that are no expression count as `$`.)
pub source_passes : (p : Item Operand → Bool) → p (Item.Leaf Here) ≡ true → (e : ExpressionItems) → AllPass p e → list_all p (postfix (source_tree e)) ≡ true
source_passes p here e all = by (run e []) refl
  where
    by : (o : Option (List (expression.Expression Operand))) → run e [] ≡ o → list_all p (postfix (only Here o)) ≡ true
    by None is = ap (λ b. b && true) here
    by (Some []) is = ap (λ b. b && true) here
    by (Some (d ∷ [])) is = ap (list_all p) (run-one e d is) ∙ list_all-from_AllPass p e all
    by (Some (d ∷ c ∷ rest)) is = ap (λ b. b && true) here

-- if two tests that pass for an item mean that a third one passes, and both pass for all items, the third one does too
pub both_pass : (p q r : Item Operand → Bool) → ((i : Item Operand) → p i ≡ true → q i ≡ true → r i ≡ true) → (xs : List (Item Operand))
    → list_all p xs ≡ true → list_all q xs ≡ true → list_all r xs ≡ true
both_pass p q r each [] left right = refl
both_pass p q r each (x ∷ xs) left right =
    let ps = and_parts (p x) (list_all p xs) left in
    let qs = and_parts (q x) (list_all q xs) right in
    ap (λ b. b && list_all r xs) (each x ps.0 qs.0) ∙ both_pass p q r each xs ps.1 qs.1

-- An expression of numbers has a number as its value.
abbrev pub NumbersSettle : Type 0
NumbersSettle = (t : Table) (e : expression.Expression Operand) → list_all (is_number_item t) (postfix e) ≡ true → (s : Settled) → settled t e ≡ Ok s
    → (n : ℕ) × (worth t (replaced t e) ≡ Worth.Number n) × (s ≡ Settled.Known (Item.Leaf (Atom.Number n) ∷ []))

-- Each name that is constant is a number.
abbrev pub ConstantsAreNumbers : Table → Type 0
ConstantsAreNumbers t = (name : List ℕ) (what : Meaning) → found t name ≡ Some what → is_constant_name (Some what) ≡ true → is_number_name (Some what) ≡ true

number_item : (t : Table) → ConstantsAreNumbers t → (i : Item Operand) → is_known t i ≡ true → is_constant_item t i ≡ true → is_number_item t i ≡ true
number_item t numbers (Item.Leaf (Number n)) known constant = refl
number_item t numbers (Item.Leaf Here) known constant = absurd cc
number_item t numbers (Item.Leaf (Name name)) known constant = by (found t name) refl known constant
  where
    by : (m : Option Meaning) → found t name ≡ m → is_some m ≡ true → is_constant_name m ≡ true → is_number_name m ≡ true
    by None is known constant = absurd cc
    by (Some what) is known constant = numbers name what is constant
number_item t numbers (Item.Unary op) known constant = refl
number_item t numbers (Item.Binary op) known constant = refl

-- The size of a DS without an error is a number.
pub space_number : NumbersSettle → (t : Table) → ConstantsAreNumbers t → (e : ExpressionItems) → AllPass (is_known t) e → (s : Settled) → space_size t e ≡ Ok s
    → (n : ℕ) × (number_in s ≡ Some n)
space_number settle t numbers e known s is =
    let so = space_settled t e s is in
    let all = both_pass (is_known t) (is_constant_item t) (is_number_item t) (number_item t numbers) (postfix (source_tree e)) (source_passes (is_known t) refl e known) so.1 in
    let n = settle t (source_tree e) all s so.0 in
    (n.0, ap number_in n.2)

jump_known : (o : Option ℕ) → is_unsized (jump_sized o) ≡ false
jump_known (Some r) = refl
jump_known None = refl

space_known : (o : Option ℕ) (n : ℕ) → o ≡ Some n → (s : Statement) → space_sized o ≡ Some s → is_unsized s ≡ false
space_known None n is s some = absurd cc
space_known (Some zero) n is s some = absurd cc
space_known (Some (suc k)) n is s some = let same : Statement.Sized (suc k) ≡ s = cc in ap is_unsized (sym same)

told : (x s : Statement) → Some x ≡ Some s → is_unsized x ≡ false → is_unsized s ≡ false
told x s same is = let one : x ≡ s = cc in ap is_unsized (sym one) ∙ is

either : (b : Bool) (s : Statement) → is_unsized s ≡ false → is_unsized (cond b Statement.Relaxable s) ≡ false
either true s is = refl
either false s is = is

grown : (grow : Bool) (t : Table) (body : Body) (s : Statement) → is_unsized s ≡ false → is_unsized (may_grow grow t body s) ≡ false
grown false t body s is = is
grown true t (line.Short (Branch.Relative condition) target) s is = either (is_some (ref_of (found t target))) s is
grown true t (line.Short Branch.CountDown target) s is = is
grown true t (line.Code instr numbers) s is = is
grown true t (line.Jump condition target) s is = is
grown true t (line.Bytes values) s is = is
grown true t (line.Words fields) s is = is
grown true t (line.Space e fill) s is = is
grown true t (line.Public list) s is = is
grown true t (line.External list) s is = is
grown true t (line.Origin e) s is = is
grown true t (line.End entry) s is = is
grown true t line.Z80 s is = is

mapped : {A B : Type 0} (f : A → B) (o : Option A) (y : B) → option_map f o ≡ Some y → (x : A) × (o ≡ Some x) × (f x ≡ y)
mapped f None y is = absurd cc
mapped f (Some x) y is = (x, refl, (let same : f x ≡ y = cc in same))

consed : (o : Option Statement) (rest : List Statement) → ((s : Statement) → o ≡ Some s → is_unsized s ≡ false) → list_any is_unsized rest ≡ false → list_any is_unsized (cons_option o rest) ≡ false
consed None rest one more = more
consed (Some s) rest one more = ap (λ b. b || list_any is_unsized rest) (one s refl) ∙ more

module _ (settle : NumbersSettle) (alike : (t u : Table) (b : Body) → IsLike t u → sized t b ≡ sized u b) (grow : Bool) (names : Names) (t u : Table) (layout : Layout) (like : IsLike t u)
    (there : (name : List ℕ) → found t name ≡ None → kind_of_name names name ≡ None) (numbers : ConstantsAreNumbers t) where
  body_known : (v : Table) → ConstantsAreNumbers v → (body : Body) → AreDefined v body → (m : Made) → made v body ≡ Ok m → (s : Statement) → sized v body ≡ Some s → is_unsized s ≡ false
  body_known v constants (line.Code instr numbers) defined m makes s is = told _ s is refl
  body_known v constants (line.Jump condition target) defined m makes s is = told _ s is (jump_known (ref_of (found v target)))
  body_known v constants (line.Short branch target) defined m makes s is = told _ s is refl
  body_known v constants (line.Bytes values) defined m makes s is = told _ s is refl
  body_known v constants (line.Words fields) defined m makes s is = told _ s is refl
  body_known v constants (line.Space e fill) defined m makes s is =
      let space = space_made v e fill m makes in
      let n = space_number settle v constants e defined.0 space.settled space.size in
      space_known (size_in (space_size v e)) n.0 (ap size_in space.size ∙ n.1) s is
  body_known v constants (line.Public list) defined m makes s is = absurd cc
  body_known v constants (line.External list) defined m makes s is = absurd cc
  body_known v constants (line.Origin e) defined m makes s is = absurd cc
  body_known v constants (line.End entry) defined m makes s is = absurd cc
  body_known v constants line.Z80 defined m makes s is = absurd cc

  line_known : (at : ℕ) (l : Line) → statement_fault names (table_at_line layout t at) l ≡ None → (s : Statement) → line_sized grow u l ≡ Some s → is_unsized s ≡ false
  line_known at (line.Equ name e) none s is = absurd cc
  line_known at (line.Statement label None) none s is = absurd cc
  line_known at (line.Statement label (Some body)) none s is =
      let sound = sound_body names (table_at_line layout t at) body none in
      let x = mapped (may_grow grow u body) (sized u body) s is in
      let known = body_known (table_at_line layout t at) numbers body (all_known names (table_at_line layout t at) there body sound.named) sound.what sound.makes x.0 (alike (table_at_line layout t at) u body like ∙ x.1) in
      ap is_unsized (sym x.2) ∙ grown grow u body x.0 known

  all_sized : (at : ℕ) (lines : List Taken) → fault_from names t layout at lines ≡ None → list_any is_unsized (statements grow u lines) ≡ false
  all_sized at [] none = refl
  all_sized at (l ∷ ls) none =
      let parts = sound_both (λ why. (l.number, why)) (statement_fault names (table_at_line layout t at) l.line) _ none in
      consed (line_sized grow u l.line) (statements grow u ls) (line_known at l.line parts.0) (all_sized (at + 1) ls parts.1)

  pub sizes_known : (lines : List Taken) → first_statement_fault names t layout lines ≡ None → list_any is_unsized (statements grow u lines) ≡ false
  sizes_known lines none = all_sized 0 lines none
