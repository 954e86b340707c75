-- Expressions that settling leaves as they are.
use Rattle.std.proofs.Common.{◌≡◌, ◌+◌, ◌≤◌, ◌++◌, ◌∷◌, [], ℕ, List, Option, Some, None, Result, Ok, length, map, take, drop, refl, sym, ap, subst, ◌∙◌, arith, append-nil}
use Rattle.asm_expr.specs.Types.{Item, Atom, ExprFault, Meaning, Settled, Statement}
use Rattle.asm_expr.specs.declared.meaning.Equated.{Equated}
use Rattle.asm_expr.specs.declared.part.Part.{Part}
use Rattle.asm_parse.specs.Expression.{Expression, postfix}
use Rattle.asm_parse.specs.Source.{Operand, Name, Number, Here}
use Rattle.asm_parse.specs.Values.Items.{IsExpr}
use Rattle.asm_expr.specs.Names.{Table, found}
use Rattle.asm_parse.specs.Values.Postfix.{source_tree, spread, tree}
use Rattle.asm_expr.specs.Settling.{divisions_fault, first_of_two, item_known, items_known, known, known_item, reduced, settled, settled_as, standing, too_large, unknown_of, unless_fault}
use Rattle.asm_expr.specs.Private.Folding.{Folds, fold_all, unless}
use Rattle.asm_expr.specs.Private.Left.{IsLeft, IsLeftName, IsLeftOperand, IsReducedTree, operand_alone}
use Rattle.asm_expr.proofs.Alike.{same_divisions, same_reduced}
use Rattle.asm_expr.proofs.ByNames.{Anything, all_places, weigh}
use Rattle.asm_expr.proofs.Folds.{fold-whole}
use Rattle.asm_expr.proofs.Known.{known-postfix}
use Rattle.asm_expr.proofs.OneTerm.{answered}
use Rattle.asm_parse.proofs.Postfix.{one_expression, tree-postfix}
use Rattle.asm_expr.proofs.Steps.{not_large}

-- the items of an object file's expression, as items that are being settled
pub known_items : (items : List (Item Atom)) → IsExpr items → postfix (known (tree items)) ≡ map known_item items
known_items items expr =
    known-postfix (tree items) ∙ ap (λ e. map known_item (postfix e)) (tree-postfix items expr.tree expr.spelled) ∙ ap (map known_item) expr.spelled

-- an object file's item is the same after both conversions
item_again : (x : Item Atom) → item_known (known_item x) ≡ Some x
item_again (Item.Leaf (Atom.Number n)) = refl
item_again (Item.Leaf (Atom.Ref r)) = refl
item_again (Item.Unary op) = refl
item_again (Item.Binary op) = refl

pub known_again : (items : List (Item Atom)) → items_known (map known_item items) ≡ Some items
known_again [] = refl
known_again (x ∷ xs) = rw (item_again x, known_again xs) refl

-- If folding gives one expression and no error, it gives that expression reduced.
unless_one : (f : Option ExprFault) (a : Expression Part) (now : List (Expression Part)) → unless f (Ok (a ∷ [])) ≡ Ok now → (f ≡ None) × (now ≡ a ∷ [])
unless_one None a now e = (refl, cc)
unless_one (Some why) a now e = cc

pub left_by_fold : (t : Table) (items : List (Item Atom)) (now : List (Expression Part)) → IsExpr items
    → fold_all t (map known_item items) [] ≡ Ok now → map known_item items ≡ spread now → IsLeft t items
left_by_fold t items now expr folds written =
    let e = known (tree items) in
    let one = unless_one (divisions_fault t e) (reduced t e) now (sym (fold-whole t e []) ∙ ap (λ xs. fold_all t xs []) (known_items items expr) ∙ folds) in
    let spelled : postfix (reduced t e) ≡ postfix e = ap spread (sym one.1) ∙ sym written ∙ sym (known_items items expr) in
    record { expr = expr; reduced = record { sound = one.0; same = one_expression (reduced t e) e spelled } }

-- Settling leaves such an expression as it is after others too.
left_folds : (t : Table) (items : List (Item Atom)) (before : List (Expression Part)) → IsLeft t items → fold_all t (postfix (known (tree items))) before ≡ Ok (known (tree items) ∷ before)
left_folds t items before left =
    let e = known (tree items) in
    fold-whole t e before ∙ ap (λ f. unless f (Ok (reduced t e ∷ before))) left.reduced.sound ∙ ap (λ r. Ok (r ∷ before)) left.reduced.same

pub left_pushed : (t : Table) (s : Settled) (items : List (Item Atom)) (old new : List (Item Part)) → s ≡ Settled.Known items → IsLeft t items → new ≡ old ++ map known_item items
    → (before : List (Expression Part)) → old ≡ spread before → Folds (fold_all t (postfix (standing s)) before) {A = Unit {0}} (Ok tt) new
left_pushed t s items old new is left put before were = (
  known (tree items) ∷ before,
  ap (λ s. fold_all t (postfix (standing s)) before) is ∙ left_folds t items before left,
  put ∙ ap (λ xs. xs ++ map known_item items) were ∙ ap (λ xs. spread before ++ xs) (sym (known_items items left.expr)),
)

-- What a name stands for is what settling leaves it as.
pub same_settled : (t : Table) (name : List ℕ) (equated : Equated) (items : List (Item Atom)) → found t name ≡ Some (Meaning.Equ equated) → IsLeftName t name items → equated.settled ≡ Settled.Known items
same_settled t name equated items known is =
    let two : Some (Meaning.Equ equated) ≡ Some (Meaning.Equ (record { settled = Settled.Known items; size = is.size })) = sym known ∙ is.found in
    let same : equated ≡ record { settled = Settled.Known items; size = is.size } = cc in
    ap (λ e. e.settled) same

-- Whether settling leaves an expression as it is depends only on the statements of the table.
pub left_same : (t u : Table) (items : List (Item Atom)) → t.statements ≡ u.statements → IsLeft u items → IsLeft t items
left_same t u items same left =
    let e = known (tree items) in
    let sound = same_divisions t u Anything (weigh t u same) e (all_places e) ∙ left.reduced.sound in
    let fixed = same_reduced t u Anything (weigh t u same) e (all_places e) ∙ left.reduced.same in
    record { expr = left.expr; reduced = record { sound = sound; same = fixed } }

-- What such a name is settled as, and such a term.
left_settled : (t : Table) (name : List ℕ) (items : List (Item Atom)) → IsLeftName t name items → settled t (source_tree (Item.Leaf (Name name) ∷ [])) ≡ Ok (Settled.Known items)
left_settled t name items is =
    let e = known (tree items) in
    let fault : first_of_two (too_large (0 + is.size)) (divisions_fault t e) ≡ None = ap (λ f. first_of_two f (divisions_fault t e)) (not_large (0 + is.size) (omega (arith, is.few))) ∙ is.left.reduced.sound in
    ap (answered t) is.found
    ∙ ap (λ f. unless_fault f (settled_as (items_known (postfix (reduced t e))) (unknown_of (reduced t e)))) fault
    ∙ ap (λ r. Ok (settled_as (items_known (postfix r)) (unknown_of r))) is.left.reduced.same
    ∙ ap (λ xs. Ok (settled_as (items_known xs) (unknown_of e))) (known_items items is.left.expr)
    ∙ ap (λ o. Ok (settled_as o (unknown_of e))) (known_again items)

operand_settled : (t : Table) (o : Operand) (items : List (Item Atom)) → IsLeftOperand t o items → settled t (source_tree (Item.Leaf o ∷ [])) ≡ Ok (Settled.Known items)
operand_settled t (Name name) items is = left_settled t name items is
operand_settled t (Number n) items is = absurd is
operand_settled t Here items is = absurd is

one_operand : (items : List (Item Operand)) (o : Operand) → operand_alone items ≡ Some o → items ≡ Item.Leaf o ∷ []
one_operand (Item.Leaf p ∷ []) o is = let same : p ≡ o = cc in ap (λ q. Item.Leaf q ∷ []) same
one_operand [] o is = cc
one_operand (Item.Leaf p ∷ x ∷ items) o is = cc
one_operand (Item.Unary op ∷ items) o is = cc
one_operand (Item.Binary op ∷ items) o is = cc

pub alone_settled : (t : Table) (parsed : List (Item Operand)) (o : Operand) (items : List (Item Atom)) → operand_alone parsed ≡ Some o → IsLeftOperand t o items
    → settled t (source_tree parsed) ≡ Ok (Settled.Known items)
alone_settled t parsed o items is left = ap (λ p. settled t (source_tree p)) (one_operand parsed o is) ∙ operand_settled t o items left
