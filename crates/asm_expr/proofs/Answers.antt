-- What is answered for an expression, given its reduced items.
use Rattle.std.proofs.Common.{◌≡◌, ◌-◌, ◌⊎◌, ◌||◌, inl, inr, true, List, [], ◌∷◌, Option, Some, None, Result, Ok, Err, length, map, slice_get, refl, sym, ap, subst, ◌∙◌, arith}
use Rattle.std.specs.Option.{option_map}
use Rattle.std.specs.List.{list_any}
use Rattle.std.proofs.lemmas.Option.{slice_get-get_or}
use Rattle.asm_expr.specs.Types.{Item, Atom, ExprFault, Settled, Unary, Unknown}
use Rattle.asm_expr.specs.declared.part.Part.{Part}
use Rattle.asm_parse.specs.Expression.{Expression, Leaf, Prefix, Infix, postfix, and_then}
use Rattle.asm_parse.specs.Source.{Operand}
use Rattle.asm_expr.specs.Names.{AreCounted, Table}
use Rattle.asm_expr.specs.Settling.{IsWorth, fault, item_known, items_known, known_item, reduced, replaced, settled, settled_as, unknown_of, unless_fault, worth, worth_unknown}
use Rattle.asm_expr.specs.Private.Answers.{IsSettled, is_unknown}
use Rattle.asm_expr.specs.Private.Folding.{IsReduced, root, unknown_at_end, unknown_by, worth_of}
use Rattle.asm_expr.proofs.Folds.{worth-reduced}
use Rattle.asm_expr.proofs.Guards.{positive}
use Rattle.asm_expr.proofs.Spread.{last_item}
use Rattle.asm_expr.proofs.Steps.{settled_worth}
use Rattle.std.proofs.Math.Bool.{or-true}
use Rattle.std.proofs.lemmas.Bool.{false≢true}

-- Items without unknown parts are items of an object file, and the other way round.
item_back : (x : Item Part) (y : Item Atom) → item_known x ≡ Some y → known_item y ≡ x
item_back (Item.Leaf (Part.Number n)) y e = let is : Item.Leaf (Atom.Number n) ≡ y = cc in ap known_item (sym is)
item_back (Item.Leaf (Part.Ref r)) y e = let is : Item.Leaf (Atom.Ref r) ≡ y = cc in ap known_item (sym is)
item_back (Item.Leaf (Part.Unknown what)) y e = cc
item_back (Item.Unary op) y e = let is : Item.Unary op ≡ y = cc in ap known_item (sym is)
item_back (Item.Binary op) y e = let is : Item.Binary op ≡ y = cc in ap known_item (sym is)

pub items_back : (xs : List (Item Part)) (items : List (Item Atom)) → items_known xs ≡ Some items → map known_item items ≡ xs
items_back [] items e = let is : [] ≡ items = cc in ap (map known_item) (sym is)
items_back (x ∷ xs) items e =
    elim (item_known x) as (λ o. item_known x ≡ o → and_then o (λ item. option_map (λ others. item ∷ others) (items_known xs)) ≡ Some items → map known_item items ≡ x ∷ xs) [
      | None ↦ λ _ bad. cc
      | Some y ↦ λ one f. elim (items_known xs) as (λ o. items_known xs ≡ o → option_map (λ others. y ∷ others) o ≡ Some items → map known_item items ≡ x ∷ xs) [
        | None ↦ λ _ bad. cc
        | Some ys ↦ λ more g.
            let is : y ∷ ys ≡ items = cc in
            ap (map known_item) (sym is) ∙ ap (λ z. z ∷ map known_item ys) (item_back x y one) ∙ ap (λ zs. x ∷ zs) (items_back xs ys more)
      ] refl f
    ] refl e

item_lost : (x : Item Part) → item_known x ≡ None → is_unknown x ≡ true
item_lost (Item.Leaf (Part.Number n)) e = cc
item_lost (Item.Leaf (Part.Ref r)) e = cc
item_lost (Item.Leaf (Part.Unknown what)) e = refl
item_lost (Item.Unary op) e = cc
item_lost (Item.Binary op) e = cc

pub items_lost : (xs : List (Item Part)) → items_known xs ≡ None → list_any is_unknown xs ≡ true
items_lost [] e = cc
items_lost (x ∷ xs) e =
    elim (item_known x) as (λ o. item_known x ≡ o → and_then o (λ item. option_map (λ others. item ∷ others) (items_known xs)) ≡ None → list_any is_unknown (x ∷ xs) ≡ true) [
      | None ↦ λ one _. lost_first x xs (item_lost x one)
      | Some y ↦ λ one f. elim (items_known xs) as (λ o. items_known xs ≡ o → option_map (λ others. y ∷ others) o ≡ None → list_any is_unknown (x ∷ xs) ≡ true) [
        | None ↦ λ more _. lost_later x xs (items_lost xs more)
        | Some ys ↦ λ _ bad. cc
      ] refl f
    ] refl e
  where
    lost_first : (x : Item Part) (xs : List (Item Part)) → is_unknown x ≡ true → list_any is_unknown (x ∷ xs) ≡ true
    lost_first x xs e = ap (λ b. b || list_any is_unknown xs) e

    lost_later : (x : Item Part) (xs : List (Item Part)) → list_any is_unknown xs ≡ true → list_any is_unknown (x ∷ xs) ≡ true
    lost_later x xs e = ap (λ b. is_unknown x || b) e ∙ or-true (is_unknown x)

-- What is answered, given what the code finds.
pub settled_known : (t : Table) (e : Expression Operand) (items : List (Item Atom)) → fault t e ≡ None → Some items ≡ items_known (postfix (reduced t (replaced t e))) → Ok (Settled.Known items) ≡ settled t e
settled_known t e items none is =
    let r = reduced t (replaced t e) in
    sym (ap (λ f. unless_fault f (settled_as (items_known (postfix r)) (unknown_of r))) none ∙ ap (λ o. Ok (settled_as o (unknown_of r))) (sym is))

pub settled_unknown : (t : Table) (e : Expression Operand) (what : Unknown) → fault t e ≡ None → None ≡ items_known (postfix (reduced t (replaced t e))) → what ≡ unknown_of (reduced t (replaced t e)) → Ok (Settled.Unknown what) ≡ settled t e
settled_unknown t e what none is same =
    let r = reduced t (replaced t e) in
    ap (λ w. Ok (Settled.Unknown w)) same ∙ sym (ap (λ f. unless_fault f (settled_as (items_known (postfix r)) (unknown_of r))) none ∙ ap (λ o. Ok (settled_as o (unknown_of r))) (sym is))

settled_fault : (t : Table) (e : Expression Operand) (why : ExprFault) → fault t e ≡ Some why → Err why ≡ settled t e
settled_fault t e why is = let r = reduced t (replaced t e) in sym (ap (λ f. unless_fault f (settled_as (items_known (postfix r)) (unknown_of r))) is)

abbrev pub Answers : Table → Expression Operand → Result Settled ExprFault → Type 0
Answers t e r = (r ≡ settled t e) ⊎ (r ≡ Err ExprFault.NoMemory)

pub refused : (t : Table) (e : Expression Operand) (why : ExprFault) → IsReduced t e (Err why) → Answers t e (Err why)
refused t e why is = inl (settled_fault t e why is)

-- What an answer says about the reduced items.
told : (t : Table) (e : Expression Operand) (o : Option (List (Item Atom))) → items_known (postfix (reduced t (replaced t e))) ≡ o → fault t e ≡ None → IsSettled t e (Ok (settled_as o (unknown_of (reduced t (replaced t e)))))
told t e (Some items) is none = (none, items_back (postfix (reduced t (replaced t e))) items is)
told t e None is none = (none, items_lost (postfix (reduced t (replaced t e))) is, refl)

faulty : (t : Table) (e : Expression Operand) (why : ExprFault) → fault t e ≡ Some why → IsSettled t e (Err why)
faulty t e ExprFault.NoMemory is = tt
faulty t e ExprFault.Syntax is = is
faulty t e ExprFault.DivideByZero is = is
faulty t e ExprFault.LabelDivisor is = is
faulty t e ExprFault.TooDeep is = is
faulty t e ExprFault.TooLarge is = is

is_settled_by : (t : Table) (e : Expression Operand) (f : Option ExprFault) → fault t e ≡ f → IsSettled t e (unless_fault f (settled_as (items_known (postfix (reduced t (replaced t e)))) (unknown_of (reduced t (replaced t e)))))
is_settled_by t e None none = told t e (items_known (postfix (reduced t (replaced t e)))) refl none
is_settled_by t e (Some why) is = faulty t e why is

pub is_settled : (t : Table) (e : Expression Operand) (r : Result Settled ExprFault) → Answers t e r → IsSettled t e r
is_settled t e r (inl same) = subst (IsSettled t e) (sym same) (is_settled_by t e (fault t e) refl)
is_settled t e r (inr memory) = subst (IsSettled t e) (sym memory) tt

-- The last item says what is known of the whole.
last_root : (r : Expression Part) → slice_get (postfix r) (length (postfix r) - 1) ≡ Some (root r)
last_root r = slice_get-get_or (postfix r) (length (postfix r) - 1) (root r) (omega (arith, positive r)) ∙ ap (λ x. Some x) (last_item r [] (root r))

pub unknown_end : (r : Expression Part) → unknown_at_end (postfix r) ≡ unknown_of r
unknown_end r = ap unknown_by (last_root r) ∙ by_root r
  where
    by_root : (r : Expression Part) → unknown_by (Some (root r)) ≡ unknown_of r
    by_root (Leaf (Part.Number n)) = refl
    by_root (Leaf (Part.Ref n)) = refl
    by_root (Leaf (Part.Unknown what)) = refl
    by_root (Prefix Unary.High a) = refl
    by_root (Prefix Unary.Low a) = refl
    by_root (Prefix op a) = refl
    by_root (Infix op a b) = refl

pub unknown_worth : (t : Table) (e : Expression Part) → list_any is_unknown (postfix (reduced t e)) ≡ true → worth t e ≡ worth_unknown (unknown_of (reduced t e))
unknown_worth t e some = sym (worth-reduced t e) ∙ by_last (reduced t e) some
  where
    by_last : (r : Expression Part) → list_any is_unknown (postfix r) ≡ true → worth_of (root r) ≡ worth_unknown (unknown_of r)
    by_last (Leaf (Part.Number n)) some = absurd (false≢true some)
    by_last (Leaf (Part.Ref n)) some = refl
    by_last (Leaf (Part.Unknown what)) some = refl
    by_last (Prefix Unary.High a) some = refl
    by_last (Prefix Unary.Low a) some = refl
    by_last (Prefix op a) some = refl
    by_last (Infix op a b) some = refl

-- The settled items have the value of the whole.
pub worth_of_known : (t : Table) → AreCounted t → (e : Expression Operand) (items : List (Item Atom)) → fault t e ≡ None → Some items ≡ items_known (postfix (reduced t (replaced t e))) → IsWorth t e items
worth_of_known t counted e items none known = settled_worth t counted e items none (items_back (postfix (reduced t (replaced t e))) items (sym known))
