-- An expression whose names all stand for values has a value, if the size of each statement is known.
use Rattle.std.proofs.Common.{◌≡◌, ◌∙◌, ◌||◌, ◌-◌, ◌%◌, sym, ap, ℕ, zero, suc, Bool, true, false, List, [], ◌∷◌, ◌++◌, Option, Some, None, Ok, refl}
use Rattle.std.specs.Prelude.{if◌then◌else◌, length, nat_lt, nat_le, take, drop}
use Rattle.std.specs.List.{list_all, list_any, sum_by}
use Rattle.std.specs.Option.{option_map}
use Rattle.asm_expr.specs.Types.{Atom, Binary, ExprFault, Item, Meaning, Settled, Statement, Unknown, Worth}
use Rattle.asm_expr.specs.declared.part.Part.{Part}
use Rattle.asm_expr.specs.declared.single.Single.{Single}
use Rattle.asm_parse.specs.Values.Arithmetic.{modulus, unary, binary}
use Rattle.asm_parse.specs.Expression.{Expression, Leaf, Prefix, Infix, postfix, and_then}
use Rattle.asm_parse.specs.Source.{Operand, Number, Name, Here}
use Rattle.asm_expr.specs.Names.{Table, found}
use Rattle.asm_parse.specs.Values.Postfix.{tree}
use Rattle.asm_expr.specs.Distances.{backwards, statements_between, bytes_taken, statement_bytes, distance, is_relaxable, is_unsized}
use Rattle.asm_expr.specs.Origins.{is_value, is_valued_item, is_valued_name}
use Rattle.asm_expr.specs.Settling.{both, difference, distance_of, fault, item_known, items_known, known, leaf_or, meant, or_else, reduced, replaced, settled, settled_as, single, standing, through, unknown_of, unless_fault, worth}
use Rattle.asm_expr.proofs.Anywhere.{of_infix, of_prefix}
use Rattle.asm_parse.proofs.Judgements.{and_parts}
use Rattle.asm_parse.proofs.Places.{neither}

-- each part of the expression has a value
abbrev Has : Expression Part → Type 0
Has (Leaf (Part.Number n)) = Unit {0}
Has (Leaf (Part.Ref r)) = Unit {0}
Has (Leaf (Part.Unknown what)) = ⊥
Has (Prefix op a) = Has a
Has (Infix op a b) = Has a × Has b

-- it is a number, or it varies
abbrev IsSure : Worth → Type 0
IsSure (Worth.Number n) = Unit {0}
IsSure Worth.Unknown = ⊥
IsSure Worth.Varies = Unit {0}

through_sure : (f : ℕ → ℕ) (w : Worth) → IsSure w → IsSure (through f w)
through_sure f (Worth.Number n) sure = tt
through_sure f Worth.Unknown sure = sure
through_sure f Worth.Varies sure = tt

both_sure : (f : ℕ → ℕ → ℕ) (v w : Worth) → IsSure v → IsSure w → IsSure (both f v w)
both_sure f (Worth.Number n) w first second = through_sure (f n) w second
both_sure f Worth.Unknown w first second = absurd first
both_sure f Worth.Varies w first second = tt

or_sure : (v w : Worth) → IsSure v → IsSure w → IsSure (or_else v w)
or_sure (Worth.Number n) w first second = tt
or_sure Worth.Unknown w first second = absurd first
or_sure Worth.Varies w first second = second

-- If the size of each statement is known, each distance is a number or varies.
none_taken : (n : ℕ) (statements : List Statement) → list_any is_unsized statements ≡ false → list_any is_unsized (take n statements) ≡ false
none_taken zero [] none = refl
none_taken zero (s ∷ ss) none = refl
none_taken (suc n) [] none = refl
none_taken (suc n) (s ∷ ss) none =
    let parts = neither (is_unsized s) (list_any is_unsized ss) none in
    ap (λ b. b || list_any is_unsized (take n ss)) parts.0 ∙ none_taken n ss parts.1

none_dropped : (n : ℕ) (statements : List Statement) → list_any is_unsized statements ≡ false → list_any is_unsized (drop n statements) ≡ false
none_dropped zero statements none = none
none_dropped (suc n) [] none = refl
none_dropped (suc n) (s ∷ ss) none = none_dropped n ss (neither (is_unsized s) (list_any is_unsized ss) none).1

bytes_sure : (statements : List Statement) → list_any is_unsized statements ≡ false → IsSure (bytes_taken statements)
bytes_sure statements none = by (list_any is_relaxable statements) (list_any is_unsized statements) none (sum_by statement_bytes statements)
  where
    by : (varies unknown : Bool) → unknown ≡ false → (n : ℕ) → IsSure (if varies then Worth.Varies else if unknown then Worth.Unknown else Worth.Number (n % modulus))
    by true unknown is n = tt
    by false false is n = tt
    by false true is n = absurd cc

backwards_sure : (w : Worth) → IsSure w → IsSure (backwards w)
backwards_sure (Worth.Number n) sure = tt
backwards_sure Worth.Unknown sure = sure
backwards_sure Worth.Varies sure = tt

between_sure : (statements : List Statement) (low high : ℕ) → list_any is_unsized statements ≡ false → IsSure (bytes_taken (statements_between statements low high))
between_sure statements low high none = bytes_sure (statements_between statements low high) (none_taken (high - low) (drop low statements) (none_dropped low statements none))

distance_sure : (statements : List Statement) (p q : ℕ) → list_any is_unsized statements ≡ false → IsSure (distance statements p q)
distance_sure statements p q none =
    by (nat_lt (length statements) p || nat_lt (length statements) q) (nat_le q p) _ _ (between_sure statements q p none) (backwards_sure (bytes_taken (statements_between statements p q)) (between_sure statements p q none))
  where
    by : (past forth : Bool) (v w : Worth) → IsSure v → IsSure w → IsSure (if past then Worth.Varies else if forth then v else w)
    by true forth v w first second = tt
    by false true v w first second = first
    by false false v w first second = second

-- If all parts of an expression have values, it is a number or varies, and reducing it takes no value away.
module _ (t : Table) (none : list_any is_unsized t.statements ≡ false) where
  far_sure : (x y : Single) → (x ≡ Single.Anything → ⊥) → (y ≡ Single.Anything → ⊥) → IsSure (distance_of t x y)
  far_sure (Single.Place p) (Single.Place q) left right = distance_sure t.statements p q none
  far_sure (Single.Place p) Single.Anything left right = absurd (right refl)
  far_sure (Single.Place p) Single.Other left right = tt
  far_sure Single.Anything y left right = absurd (left refl)
  far_sure Single.Other y left right = tt

  not_anything : (e : Expression Part) → Has e → single e ≡ Single.Anything → ⊥
  not_anything (Leaf (Part.Number n)) has is = cc
  not_anything (Leaf (Part.Ref r)) has is = cc
  not_anything (Leaf (Part.Unknown what)) has is = has
  not_anything (Prefix op a) has is = cc
  not_anything (Infix op a b) has is = cc

  difference_sure : (op : Binary) (a b : Expression Part) → Has a → Has b → IsSure (difference t op a b)
  difference_sure Binary.Subtract a b left right = far_sure (single a) (single b) (not_anything a left) (not_anything b right)
  difference_sure op a b left right = tt

  worth_sure : (e : Expression Part) → Has e → IsSure (worth t e)
  worth_sure (Leaf (Part.Number n)) has = tt
  worth_sure (Leaf (Part.Ref r)) has = tt
  worth_sure (Leaf (Part.Unknown what)) has = absurd has
  worth_sure (Prefix op a) has = through_sure (unary op) (worth t a) (worth_sure a has)
  worth_sure (Infix op a b) has =
      or_sure (difference t op a b) (both (binary op) (worth t a) (worth t b)) (difference_sure op a b has.0 has.1)
      (both_sure (binary op) (worth t a) (worth t b) (worth_sure a has.0) (worth_sure b has.1))

  leaf_has : (other : Expression Part) (w : Worth) → IsSure w → Has other → Has (leaf_or other w)
  leaf_has other (Worth.Number n) sure has = tt
  leaf_has other Worth.Unknown sure has = absurd sure
  leaf_has other Worth.Varies sure has = has

  reduced_has : (e : Expression Part) → Has e → Has (reduced t e)
  reduced_has (Leaf part) has = has
  reduced_has (Prefix op a) has = leaf_has (Prefix op (reduced t a)) (worth t (Prefix op a)) (worth_sure (Prefix op a) has) (reduced_has a has)
  reduced_has (Infix op a b) has = leaf_has (Infix op (reduced t a) (reduced t b)) (worth t (Infix op a b)) (worth_sure (Infix op a b) has) (reduced_has a has.0, reduced_has b has.1)

-- Names that stand for values bring only parts with values.
known_has : (e : Expression Atom) → Has (known e)
known_has (Leaf (Atom.Number n)) = tt
known_has (Leaf (Atom.Ref r)) = tt
known_has (Prefix op a) = known_has a
known_has (Infix op a b) = (known_has a, known_has b)

standing_has : (s : Settled) → is_value s ≡ true → Has (standing s)
standing_has (Settled.Known items) is = known_has (tree items)
standing_has (Settled.Unknown what) is = cc

name_has : (m : Option Meaning) → is_valued_name m ≡ true → Has (meant m)
name_has None is = cc
name_has (Some (Meaning.Label s)) is = tt
name_has (Some (Meaning.External r)) is = tt
name_has (Some (Meaning.Constant n)) is = tt
name_has (Some Meaning.UnknownConstant) is = cc
name_has (Some (Meaning.Equ equated)) is = standing_has equated.settled is
name_has (Some Meaning.Faulty) is = cc

replaced_has : (t : Table) (e : Expression Operand) → list_all (is_valued_item t) (postfix e) ≡ true → Has (replaced t e)
replaced_has t (Leaf (Number n)) is = tt
replaced_has t (Leaf Here) is = tt
replaced_has t (Leaf (Name name)) is = name_has (found t name) (and_parts _ _ is).0
replaced_has t (Prefix op a) is = replaced_has t a (of_prefix (is_valued_item t) op a is)
replaced_has t (Infix op a b) is =
    let sides = of_infix (is_valued_item t) op a b is in
    (replaced_has t a sides.0, replaced_has t b sides.1)

-- Items whose parts have values are items of an object file.
abbrev AreKnown : List (Item Part) → Type 0
AreKnown xs = (items : List (Item Atom)) × (items_known xs ≡ Some items)

known-append : (xs ys : List (Item Part)) → AreKnown xs → AreKnown ys → AreKnown (xs ++ ys)
known-append [] ys first second = second
known-append (x ∷ xs) ys first second =
    elim (item_known x) as (λ o. and_then o (λ item. option_map (λ items. item ∷ items) (items_known xs)) ≡ Some first.0
    → (items : List (Item Atom)) × (and_then o (λ item. option_map (λ items. item ∷ items) (items_known (xs ++ ys))) ≡ Some items)) [
      | None ↦ λ none. cc
      | Some item ↦ λ some.
          let rest = known-append xs ys (of_rest (items_known xs) item first.0 some) second in
          (item ∷ rest.0, ap (option_map (λ items. item ∷ items)) rest.1)
    ] first.1
  where
    of_rest : (o : Option (List (Item Atom))) (item : Item Atom) (all : List (Item Atom)) → option_map (λ items. item ∷ items) o ≡ Some all → (items : List (Item Atom)) × (o ≡ Some items)
    of_rest None item all is = cc
    of_rest (Some items) item all is = (items, refl)

items_has : (e : Expression Part) → Has e → AreKnown (postfix e)
items_has (Leaf (Part.Number n)) has = (Item.Leaf (Atom.Number n) ∷ [], refl)
items_has (Leaf (Part.Ref r)) has = (Item.Leaf (Atom.Ref r) ∷ [], refl)
items_has (Leaf (Part.Unknown what)) has = absurd has
items_has (Prefix op a) has = known-append (postfix a) (Item.Unary op ∷ []) (items_has a has) (Item.Unary op ∷ [], refl)
items_has (Infix op a b) has =
    known-append (postfix a ++ postfix b) (Item.Binary op ∷ []) (known-append (postfix a) (postfix b) (items_has a has.0) (items_has b has.1)) (Item.Binary op ∷ [], refl)

pub valued_settled : (t : Table) (e : Expression Operand) → list_all (is_valued_item t) (postfix e) ≡ true → list_any is_unsized t.statements ≡ false
    → (s : Settled) → settled t e ≡ Ok s → is_value s ≡ true
valued_settled t e is none s settles =
    let r = reduced t (replaced t e) in
    let items = items_has r (reduced_has t none (replaced t e) (replaced_has t e is)) in
    by (fault t e) (items_known (postfix r)) (unknown_of r) items.0 items.1 settles
  where
    by : (f : Option ExprFault) (o : Option (List (Item Atom))) (what : Unknown) (items : List (Item Atom)) → o ≡ Some items → unless_fault f (settled_as o what) ≡ Ok s → is_value s ≡ true
    by (Some why) o what items some bad = cc
    by None None what items some good = cc
    by None (Some all) what items some good = let same : Settled.Known all ≡ s = cc in ap is_value (sym same)
