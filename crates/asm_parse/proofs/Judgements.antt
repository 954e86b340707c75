-- The code's test of whether items make an expression.
use Rattle.std.proofs.Common.{◌≡◌, ◌≢◌, ℕ, Bool, true, false, List, [], ◌∷◌, ◌++◌, Option, Some, None, length, nat_eq, nat_le, ◌&&◌, refl, sym, ap, ◌∙◌, arith}
use Rattle.std.specs.List.{list_any}
use Rattle.std.specs.Option.{option_map, option_eq}
use Rattle.std.specs.Cmp.Derive.{both_true}
use Rattle.std.proofs.lemmas.Bool.{eqb-true, leb-true, le-leb, false≢true}
use Rattle.std.proofs.lemmas.Grind.{flat_map-append}
use Rattle.asm_parse.specs.Types.{Item, Atom}
use Rattle.asm_parse.specs.Values.Arithmetic.{unary, binary}
use Rattle.asm_parse.specs.Expression.{Expression, Leaf, Prefix, Infix, postfix}
use Rattle.asm_parse.specs.Values.Postfix.{run, tree}
use Rattle.asm_parse.specs.Values.Items.{IsExpr, IsConstant, is_ref, refs, refs_in, value}
use Rattle.asm_parse.specs.Private.Steps.{is_expr}
use Rattle.asm_parse.proofs.Postfix.{run-whole, run-one, tree-postfix}

one_of : (left : Option (List (Expression Atom))) → option_map length left ≡ Some 1 → (e : Expression Atom) × (left ≡ Some (e ∷ []))
one_of None n = cc
one_of (Some []) n = cc
one_of (Some (e ∷ [])) n = (e, refl)
one_of (Some (e ∷ f ∷ more)) n = let two : length (e ∷ f ∷ more) ≡ 1 = cc in absurd (omega (arith, two))

pub and_parts : (a b : Bool) → (a && b) ≡ true → (a ≡ true) × (b ≡ true)
and_parts true true e = (refl, refl)
and_parts true false e = cc
and_parts false b e = cc

option_is : (o : Option ℕ) → option_eq nat_eq o (Some 1) ≡ true → o ≡ Some 1
option_is None e = cc
option_is (Some n) e = ap Some (eqb-true n 1 e)

-- The test is true only if the items make an expression,
pub taken : (items : List (Item Atom)) → is_expr items ≡ true → IsExpr items
taken items holds =
    let parts = and_parts _ _ holds in
    let front = and_parts _ _ parts.0 in
    let one = one_of (run items []) (option_is _ front.1) in
    record { tree = one.0; spelled = run-one items one.0 one.1; few = leb-true (length items) 64 front.0; guarded = parts.1 }

-- and it is true if they do.
pub refused : (items : List (Item Atom)) → is_expr items ≡ false → IsExpr items → ⊥
refused items fails expr =
    let few : nat_le (length items) 64 ≡ true = le-leb (length items) 64 expr.few in
    let left : option_eq nat_eq (option_map length (run items [])) (Some 1) ≡ true = ap (λ o. option_eq nat_eq (option_map length o) (Some 1)) (run-whole items expr.tree expr.spelled) in
    let holds : is_expr items ≡ true = both_true (both_true few left) expr.guarded in
    false≢true (sym fails ∙ holds)

pub no_refs : (items : List (Item Atom)) → list_any is_ref items ≡ false → refs items ≡ []
no_refs [] none = refl
no_refs (Item.Leaf (Atom.Number n) ∷ items) none = no_refs items none
no_refs (Item.Leaf (Atom.Ref r) ∷ items) none = cc
no_refs (Item.Unary op ∷ items) none = no_refs items none
no_refs (Item.Binary op ∷ items) none = no_refs items none

pub some_ref : (items : List (Item Atom)) → list_any is_ref items ≡ true → refs items ≢ []
some_ref [] some = cc
some_ref (Item.Leaf (Atom.Number n) ∷ items) some = some_ref items some
some_ref (Item.Leaf (Atom.Ref r) ∷ items) some = λ e. cc
some_ref (Item.Unary op ∷ items) some = some_ref items some
some_ref (Item.Binary op ∷ items) some = some_ref items some

empty_parts : (xs ys : List ℕ) → xs ++ ys ≡ [] → (xs ≡ []) × (ys ≡ [])
empty_parts [] ys e = (refl, e)
empty_parts (x ∷ xs) ys e = cc

refs-append : (xs ys : List (Item Atom)) → refs (xs ++ ys) ≡ refs xs ++ refs ys
refs-append xs ys = flat_map-append refs_in xs ys

-- The value of an expression without refs is the same at any addresses.
unplaced : (p q : ℕ → ℕ) (e : Expression Atom) → refs (postfix e) ≡ [] → value p e ≡ value q e
unplaced p q (Leaf (Atom.Number n)) none = refl
unplaced p q (Leaf (Atom.Ref r)) none = cc
unplaced p q (Prefix op a) none =
    let parts = empty_parts _ _ (sym (refs-append (postfix a) (Item.Unary op ∷ [])) ∙ none) in
    ap (unary op) (unplaced p q a parts.0)
unplaced p q (Infix op a b) none =
    let parts = empty_parts _ _ (sym (refs-append (postfix a ++ postfix b) (Item.Binary op ∷ [])) ∙ none) in
    let sides = empty_parts _ _ (sym (refs-append (postfix a) (postfix b)) ∙ parts.0) in
    ap (λ x. binary op x (value p b)) (unplaced p q a sides.0) ∙ ap (binary op (value q a)) (unplaced p q b sides.1)

-- An expression's items are those of its tree.
pub spelled_tree : (items : List (Item Atom)) → IsExpr items → postfix (tree items) ≡ items
spelled_tree items expr = ap postfix (tree-postfix items expr.tree expr.spelled) ∙ expr.spelled

pub is_constant : (items : List (Item Atom)) (p : ℕ → ℕ) (n : ℕ) → IsExpr items → list_any is_ref items ≡ false → n ≡ value p (tree items) → IsConstant items (Some n)
is_constant items p n expr none e =
    (no_refs items none, λ q. unplaced q p (tree items) (ap refs (spelled_tree items expr) ∙ no_refs items none) ∙ sym e)
