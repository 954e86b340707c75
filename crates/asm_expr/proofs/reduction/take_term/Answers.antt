use Rattle.std.proofs.Common.{◌≡◌, ◌≤◌, ◌+◌, ℕ, List, Result, Ok, Err, IfOk, Some, sym, ap, subst, arith, ◌∙◌}
use Rattle.asm_expr.specs.Types.{ExprFault}
use Rattle.asm_parse.specs.Source.{Operand, view_operand, operand, Name}
use Rattle.asm_expr.specs.declared.meaning.Meaning.{Meaning}
use Rattle.asm_expr.specs.declared.meaning.Equated.{Equated}
use Rattle.asm_parse.specs.Expression.{postfix}
use Rattle.asm_expr.specs.Settling.{stands_for, meant, size_meant, operand_size, standing}
use Rattle.asm_expr.specs.Private.Folding.{Folds, fold_all}
use Rattle.asm_expr.specs.Names.{AreCounted, Table, found, item_count}
use Rattle.asm_expr.proofs.reduction.take_term.Goals as goal

-- a name's expression has no more items than the terms and operators that the name stands for
enough : (t : Table) (name : List ℕ) (o : Operand) (equ : Equated) → AreCounted t → o ≡ Name name → found t name ≡ Some (Meaning.Equ equ) → item_count equ.settled ≤ operand_size t o
enough t name o equ counted is known =
    let few = counted name (Meaning.Equ equ) known in
    omega (arith, few.1, ap (operand_size t) is, ap size_meant known)

at_most : (r : Result (Unit {0}) ExprFault) (new old m n : ℕ) → m ≤ n → IfOk r (λ _. new ≤ old + m) → IfOk r (λ _. new ≤ old + n)
at_most (Ok x) new old m n few most = omega (arith, few, most)
at_most (Err why) new old m n few most = tt

pub take_equ-requires-clause-known : goal.take_equ-requires-clause-known
take_equ-requires-clause-known c = sym c.in-Some-Equ.ensures ∙ ap Some c.in-Some-Equ.field-0-is

pub take_equ-requires-clause-room : goal.take_equ-requires-clause-room
take_equ-requires-clause-room c =
    let t = c.args.names.now in
    let known : found t c.in-Name.name.now ≡ Some (Meaning.Equ c.in-Some-Equ.equated) =
    sym c.in-Some-Equ.ensures ∙ ap Some c.in-Some-Equ.field-0-is in
    let few = enough t c.in-Name.name.now (operand c.args.term.now) c.in-Some-Equ.equated c.requires.counted (sym c.view.ensures ∙ ap view_operand c.in-Name.is) known in
    omega (arith, few, c.requires.room)

pub returns-in-Some-Equ-clause-most : goal.returns-in-Some-Equ-clause-most
returns-in-Some-Equ-clause-most c =
    let t = c.args.names.now in
    let known : found t c.in-Name.name.now ≡ Some (Meaning.Equ c.in-Some-Equ.equated) =
    sym c.in-Some-Equ.ensures ∙ ap Some c.in-Some-Equ.field-0-is in
    let few = enough t c.in-Name.name.now (operand c.args.term.now) c.in-Some-Equ.equated c.requires.counted (sym c.view.ensures ∙ ap view_operand c.in-Name.is) known in
    at_most c.take_equ.result _ _ _ _ few c.take_equ.ensures.most

pub returns-in-Some-Equ-clause-folds : goal.returns-in-Some-Equ-clause-folds
returns-in-Some-Equ-clause-folds c = λ before is.
    let t = c.args.names.now in
    let equ = c.in-Some-Equ.equated in
    let name : operand c.args.term.now ≡ Name c.in-Name.name.now = sym c.view.ensures ∙ ap view_operand c.in-Name.is in
    let known : found t c.in-Name.name.now ≡ Some (Meaning.Equ equ) =
    sym c.in-Some-Equ.ensures ∙ ap Some c.in-Some-Equ.field-0-is in
    let stands : postfix (stands_for t (operand c.args.term.now)) ≡ postfix (standing equ.settled) =
    ap (λ o. postfix (stands_for t o)) name ∙ ap (λ m. postfix (meant m)) known in
    subst (λ items. Folds (fold_all t items before) c.take_equ.result c.take_equ.new.out) (sym stands) (c.take_equ.ensures.folds before is)
