-- What an operand that begins with `$` says.
use Rattle.std.proofs.Common.{◌≡◌, ◌≢◌, ℕ, nat_lt, length, Bool, true, false, List, [], ◌∷◌, None, Ok, Err, map, if◌then◌else◌, refl, sym, ap, ◌∙◌}
use Rattle.std.specs.List.{list_all, list_any}
use Rattle.std.proofs.lemmas.Bool.{false≢true}
use Rattle.asm_expr.specs.Types.{Binary, Item, Atom, ExprFault, Settled, Unknown, Worth}
use Rattle.asm_expr.specs.declared.part.Part.{Part}
use Rattle.asm_expr.specs.declared.single.Single.{Single}
use Rattle.asm_expr.specs.declared.here.Offset.{Offset}
use Rattle.asm_parse.specs.Values.Arithmetic.{binary}
use Rattle.asm_parse.specs.Expression.{Expression, Leaf, Prefix, Infix, postfix}
use Rattle.asm_parse.specs.Source.{Operand, Number, Name, Here}
use Rattle.asm_expr.specs.Names.{Table}
use Rattle.asm_expr.specs.Settling.{known, known_item, replaced, single, distance_of, difference, or_else, worth, leaf_or, reduced, fault, is_constant_item}
use Rattle.asm_expr.specs.Private.Answers.{IsSettled, is_unknown}
use Rattle.asm_expr.proofs.Constants.{steady}
use Rattle.asm_expr.specs.Offsets.{offset_after_here, constant_behind, offset, IsOffset}
use Rattle.asm_expr.specs.Private.Heads.{is_sum, IsFromHere, IsNotFromHere, numbered}
use Rattle.asm_parse.proofs.Postfix.{one_expression}
use Rattle.asm_expr.proofs.Guards.{reduced_number, reduced_unknown}
use Rattle.asm_expr.proofs.Fixed.{infix_known, leaf_unknown}
use Rattle.asm_expr.proofs.Known.{object_tree}

-- what the operand says, for each of the two operators
sum_offset : (t : Table) (op : Binary) (n : Expression Operand) → is_sum op ≡ true → offset t (Infix op (Leaf Here) n) ≡ constant_behind t op n
sum_offset t Binary.Add n is = refl
sum_offset t Binary.Subtract n is = refl
sum_offset t op n is = cc

never_other : (b : Bool) (op : Binary) (w : Worth) → (if b then offset_after_here op w else Offset.NotConstant) ≢ Offset.Other
never_other true op (Worth.Number n) = λ e. cc
never_other true op Worth.Unknown = λ e. cc
never_other true op Worth.Varies = λ e. cc
never_other false op w = λ e. cc

-- An operand of another form.
pub other : (t : Table) (e : Expression Operand) → postfix e ≢ Item.Leaf Here ∷ [] → IsNotFromHere (postfix e) → offset t e ≡ Offset.Other
other t (Leaf Here) alone none = absurd (alone refl)
other t (Leaf (Number n)) alone none = refl
other t (Leaf (Name n)) alone none = refl
other t (Prefix op a) alone none = refl
other t (Infix Binary.Add (Leaf Here) b) alone none = absurd (none Binary.Add b refl refl)
other t (Infix Binary.Subtract (Leaf Here) b) alone none = absurd (none Binary.Subtract b refl refl)
other t (Infix op a b) alone none = refl

-- An expression that is a number is not a single address.
pub no_place : (t : Table) (e : Expression Part) (m : ℕ) → worth t e ≡ Worth.Number m → single e ≡ Single.Other
no_place t (Leaf (Part.Number n)) m is = refl
no_place t (Leaf (Part.Ref r)) m is = cc
no_place t (Leaf (Part.Unknown Unknown.Anything)) m is = cc
no_place t (Leaf (Part.Unknown Unknown.Number)) m is = refl
no_place t (Leaf (Part.Unknown Unknown.Varies)) m is = refl
no_place t (Leaf (Part.Unknown Unknown.VariesInByte)) m is = refl
no_place t (Prefix op a) m is = refl
no_place t (Infix op a b) m is = refl

no_difference : (t : Table) (op : Binary) (here : ℕ) (e : Expression Part) → single e ≡ Single.Other → difference t op (Leaf (Part.Ref here)) e ≡ Worth.Varies
no_difference t Binary.Subtract here e none = ap (distance_of t (Single.Place here)) none
no_difference t op here e none = refl

-- The whole, if n is a number.
whole_is : (t : Table) (op : Binary) (n : Expression Operand) (m : ℕ) → worth t (replaced t n) ≡ Worth.Number m
    → reduced t (replaced t (Infix op (Leaf Here) n)) ≡ Infix op (Leaf (Part.Ref t.here)) (Leaf (Part.Number m))
whole_is t op n m is =
    ap (λ d. leaf_or (Infix op (Leaf (Part.Ref t.here)) (reduced t (replaced t n))) (or_else d Worth.Varies)) (no_difference t op t.here (replaced t n) (no_place t (replaced t n) m is))
    ∙ ap (Infix op (Leaf (Part.Ref t.here))) (reduced_number t (replaced t n) m is)

-- An address and an unknown number have no difference that is a number.
some_place : (t : Table) (p : ℕ) (op : Binary) (e : Expression Part) (m : ℕ) → worth t e ≡ Worth.Unknown → or_else (difference t op (Leaf (Part.Ref p)) e) Worth.Varies ≡ Worth.Number m → ⊥
some_place t p Binary.Subtract (Leaf (Part.Number n)) m is bad = cc
some_place t p Binary.Subtract (Leaf (Part.Ref r)) m is bad = cc
some_place t p Binary.Subtract (Leaf (Part.Unknown Unknown.Anything)) m is bad =
    elim (nat_lt (length t.statements) p) as (λ past. or_else (if past then Worth.Varies else Worth.Unknown) Worth.Varies ≡ Worth.Number m → ⊥) [
      | true ↦ λ no. cc
      | false ↦ λ no. cc
    ] bad
some_place t p Binary.Subtract (Leaf (Part.Unknown Unknown.Number)) m is bad = cc
some_place t p Binary.Subtract (Leaf (Part.Unknown Unknown.Varies)) m is bad = cc
some_place t p Binary.Subtract (Leaf (Part.Unknown Unknown.VariesInByte)) m is bad = cc
some_place t p Binary.Subtract (Prefix u a) m is bad = cc
some_place t p Binary.Subtract (Infix o a b) m is bad = cc
some_place t p op e m is bad = cc

-- The whole is not known if n is not.
whole_unknown : (t : Table) (op : Binary) (e : Expression Part) (x : Expression Atom) → worth t e ≡ Worth.Unknown → reduced t (Infix op (Leaf (Part.Ref t.here)) e) ≡ known x → ⊥
whole_unknown t op e x is made =
    let d = difference t op (Leaf (Part.Ref t.here)) e in
    elim (or_else d Worth.Varies) as (λ w. or_else d Worth.Varies ≡ w → leaf_or (Infix op (Leaf (Part.Ref t.here)) (reduced t e)) w ≡ known x → ⊥) [
      | Worth.Number m ↦ λ was _. some_place t t.here op e m is was
      | Worth.Unknown ↦ λ _ bad. leaf_unknown x Unknown.Number (sym bad)
      | Worth.Varies ↦ λ _ good.
          let p = infix_known x op (Leaf (Part.Ref t.here)) (reduced t e) (sym good) in
          let u = reduced_unknown t e is in
          leaf_unknown p.1 u.0 (sym p.4 ∙ u.1)
    ] refl made

-- The items of the whole, if they are known.
number_item : (x : Item Atom) (m : ℕ) → known_item x ≡ Item.Leaf (Part.Number m) → x ≡ Item.Leaf (Atom.Number m)
number_item (Item.Leaf (Atom.Number n)) m e = let same : n ≡ m = cc in ap (λ k. Item.Leaf (Atom.Number k)) same
number_item (Item.Leaf (Atom.Ref r)) m e = cc
number_item (Item.Unary op) m e = cc
number_item (Item.Binary op) m e = cc

three_number : (op : Binary) (items : List (Item Atom)) (x z : Item Part) (m : ℕ) → map known_item items ≡ x ∷ Item.Leaf (Part.Number m) ∷ z ∷ [] → numbered op items ≡ Offset.Number (binary op 0 m)
three_number op (a ∷ b ∷ c ∷ []) x z m e = let second : known_item b ≡ Item.Leaf (Part.Number m) = cc in ap (λ y. numbered op (a ∷ y ∷ c ∷ [])) (number_item b m second)
three_number op [] x z m e = cc
three_number op (a ∷ []) x z m e = cc
three_number op (a ∷ b ∷ []) x z m e = cc
three_number op (a ∷ b ∷ c ∷ d ∷ more) x z m e = cc

-- What the code has found about an operand.
pub record Begins (e : Expression Operand) (op : Binary) (n : List (Item Operand)) : Type 0 where
  pub sum : is_sum op ≡ true
  pub tree : Expression Operand
  pub spelled : postfix tree ≡ n
  pub whole : e ≡ Infix op (Leaf Here) tree

pub begins : (e : Expression Operand) (op : Binary) (n items : List (Item Operand)) → postfix e ≡ items → IsFromHere op n items → Begins e op n
begins e op n items is f = record { sum = f.sum; tree = f.tree; spelled = f.spelled; whole = one_expression e (Infix op (Leaf Here) f.tree) (is ∙ sym f.whole) }

says : (t : Table) (e : Expression Operand) (op : Binary) (n : List (Item Operand)) → (b : Begins e op n) → offset t e ≡ (if list_all (is_constant_item t) n then offset_after_here op (worth t (replaced t b.tree)) else Offset.NotConstant)
says t e op n b =
    ap (offset t) b.whole ∙ sum_offset t op b.tree b.sum
    ∙ ap (λ xs. if list_all (is_constant_item t) xs then offset_after_here op (worth t (replaced t b.tree)) else Offset.NotConstant) b.spelled

pub refused : (t : Table) (e : Expression Operand) (op : Binary) (n : List (Item Operand)) (why : ExprFault) → Begins e op n → IsSettled t e (Err why) → IsOffset t e (Err why)
refused t e op n why b is = by_fault why is (λ bad. never_other (list_all (is_constant_item t) n) op (worth t (replaced t b.tree)) (sym (says t e op n b) ∙ bad))
  where
    by_fault : (why : ExprFault) → IsSettled t e (Err why) → offset t e ≢ Offset.Other → IsOffset t e (Err why)
    by_fault ExprFault.NoMemory is never = tt
    by_fault ExprFault.Syntax is never = (is, never)
    by_fault ExprFault.DivideByZero is never = (is, never)
    by_fault ExprFault.LabelDivisor is never = (is, never)
    by_fault ExprFault.TooDeep is never = (is, never)
    by_fault ExprFault.TooLarge is never = (is, never)

pub varies : (t : Table) (e : Expression Operand) (op : Binary) (n : List (Item Operand)) → Begins e op n → list_all (is_constant_item t) n ≡ false → offset t e ≡ Offset.NotConstant
varies t e op n b none = says t e op n b ∙ ap (λ c. if c then offset_after_here op (worth t (replaced t b.tree)) else Offset.NotConstant) none

constant_says : (t : Table) (e : Expression Operand) (op : Binary) (n : List (Item Operand)) → (b : Begins e op n) → list_all (is_constant_item t) n ≡ true → offset t e ≡ offset_after_here op (worth t (replaced t b.tree))
constant_says t e op n b all = says t e op n b ∙ ap (λ c. if c then offset_after_here op (worth t (replaced t b.tree)) else Offset.NotConstant) all

pub unknown : (t : Table) (e : Expression Operand) (op : Binary) (n : List (Item Operand)) → Begins e op n → list_all (is_constant_item t) n ≡ true
    → list_any is_unknown (postfix (reduced t (replaced t e))) ≡ true → offset t e ≡ Offset.Unknown
unknown t e op n b all some =
    constant_says t e op n b all ∙ elim (worth t (replaced t b.tree)) as (λ w. worth t (replaced t b.tree) ≡ w → offset_after_here op w ≡ Offset.Unknown) [
      | Worth.Number m ↦ λ is.
          let none : list_any is_unknown (postfix (reduced t (replaced t e))) ≡ false =
          ap (λ x. list_any is_unknown (postfix (reduced t (replaced t x)))) b.whole ∙ ap (λ x. list_any is_unknown (postfix x)) (whole_is t op b.tree m is) in
          absurd (false≢true (sym none ∙ some))
      | Worth.Unknown ↦ λ _. refl
      | Worth.Varies ↦ λ _. refl
    ] refl

pub number : (t : Table) (e : Expression Operand) (op : Binary) (n : List (Item Operand)) (items : List (Item Atom)) → Begins e op n → list_all (is_constant_item t) n ≡ true
    → map known_item items ≡ postfix (reduced t (replaced t e)) → offset t e ≡ numbered op items
number t e op n items b all made =
    let whole : map known_item items ≡ postfix (reduced t (replaced t (Infix op (Leaf Here) b.tree))) = made ∙ ap (λ x. postfix (reduced t (replaced t x))) b.whole in
    constant_says t e op n b all ∙ elim (worth t (replaced t b.tree)) as (λ w. worth t (replaced t b.tree) ≡ w → offset_after_here op w ≡ numbered op items) [
      | Worth.Number m ↦ λ is. sym (three_number op items _ _ m (whole ∙ ap postfix (whole_is t op b.tree m is)))
      | Worth.Unknown ↦ λ is.
          let object = object_tree items (reduced t (replaced t (Infix op (Leaf Here) b.tree))) whole in
          absurd (whole_unknown t op (replaced t b.tree) object.0 is object.1)
      | Worth.Varies ↦ λ is. absurd (steady t b.tree (ap (list_all (is_constant_item t)) b.spelled ∙ all) is)
    ] refl

pub no_fault : (t : Table) (e : Expression Operand) (s : Settled) → IsSettled t e (Ok s) → fault t e ≡ None
no_fault t e (Settled.Known items) is = is.0
no_fault t e (Settled.Unknown what) is = is.0

pub said : (t : Table) (e : Expression Operand) (o : Offset) → fault t e ≡ None → offset t e ≡ o → IsOffset t e (Ok o)
said t e (Offset.Number n) none is = (none, is)
said t e Offset.Unknown none is = (none, is)
said t e Offset.NotConstant none is = (none, is)
said t e Offset.Other none is = is
