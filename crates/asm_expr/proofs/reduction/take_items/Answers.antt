use Rattle.std.proofs.Common.{◌≡◌, ◌<◌, Err, length, map, get_or, sym, ap, subst, ◌∙◌, arith}
use Rattle.std.proofs.lemmas.List.{length-map}
use Rattle.std.proofs.lemmas.Result.{err_from_is_err_and}
use Rattle.asm_expr.specs.Types.{Item, Atom}
use Rattle.asm_parse.specs.Private.Steps.{arity}
use Rattle.asm_parse.specs.Values.Items.{IsExpr}
use Rattle.asm_expr.specs.Settling.{known_item}
use Rattle.asm_expr.specs.Private.Folding.{Folds, fold_one}
use Rattle.std.proofs.Math.ListN.{get_or-map}
use Rattle.asm_expr.proofs.Known.{known_run}
use Rattle.asm_expr.proofs.Steps.{room_arity, room_next, folded_arity, folded_next, folded_refused}
use Rattle.asm_expr.proofs.reduction.take_items.Goals as goal

pub fold-requires-clause-operands : goal.fold-requires-clause-operands
fold-requires-clause-operands c =
    let xs = c.args.items.now in
    let k = c.loop-item.item-index in
    let expr : IsExpr xs = c.requires.expr in
    let at : get_or (map known_item xs) k (known_item (Item.Leaf (Atom.Number 0))) ≡ c.known_item.result = get_or-map known_item xs k (Item.Leaf (Atom.Number 0)) ∙ sym c.known_item.ensures in
    let room = room_arity (map known_item xs) k _ (known_item (Item.Leaf (Atom.Number 0))) _ (known_run xs expr).1 (omega (arith, length-map xs known_item)) c.loop-item.invariant.0 in
    omega (arith, room, ap arity at)

pub fold-requires-clause-room : goal.fold-requires-clause-room
fold-requires-clause-room c = omega (arith, c.loop-item.invariant.2, c.requires.room)

pub returns-in_err-fold-clause-folds : goal.returns-in_err-fold-clause-folds
returns-in_err-fold-clause-folds c = λ before is.
    let xs = c.args.items.now in
    let k = c.loop-item.item-index in
    let d = known_item (Item.Leaf (Atom.Number 0)) in
    let t = c.args.names.now in
    let expr : IsExpr xs = c.requires.expr in
    let at : get_or (map known_item xs) k d ≡ c.known_item.result = get_or-map known_item xs k (Item.Leaf (Atom.Number 0)) ∙ sym c.known_item.ensures in
    let f = c.loop-item.invariant.1 before is in
    let within : k < length (map known_item xs) = omega (arith, length-map xs known_item) in
    let enough = folded_arity t (map known_item xs) before k _ d _ (known_run xs expr).1 within f in
    let p = err_from_is_err_and c.from_residual.result c.from_residual.ensures.1 in
    let refused = c.in_err-fold.ensures.folds f.now f.written (omega (arith, enough, ap arity at)) in
    rw (p.1, p.2)
    (folded_refused t (map known_item xs) before k _ c.fold.new.items d c.in_err-fold.field-0.0 within f
    (subst (λ y. Folds (fold_one t y f.now) {A = Unit {0}} (Err c.in_err-fold.field-0.0) c.fold.new.items) (sym at) refused))

pub loop-item-preserved : goal.loop-item-preserved
loop-item-preserved c =
    let xs = c.args.items.now in
    let k = c.loop-item.item-index in
    let d = known_item (Item.Leaf (Atom.Number 0)) in
    let t = c.args.names.now in
    let expr : IsExpr xs = c.requires.expr in
    let at : get_or (map known_item xs) k d ≡ c.known_item.result = get_or-map known_item xs k (Item.Leaf (Atom.Number 0)) ∙ sym c.known_item.ensures in
    let whole = (known_run xs expr).1 in
    let within : k < length (map known_item xs) = omega (arith, length-map xs known_item) in (
      room_next (map known_item xs) k _ _ d _ whole within c.loop-item.invariant.0 (omega (arith, c.in_ok-fold.ensures.least, ap arity at)),
      λ before is.
          let f = c.loop-item.invariant.1 before is in
          let enough = folded_arity t (map known_item xs) before k _ d _ whole within f in
          let done = c.in_ok-fold.ensures.folds f.now f.written (omega (arith, enough, ap arity at)) in
          folded_next t (map known_item xs) before k _ _ d _ done.0 whole within f (ap (λ y. fold_one t y f.now) at ∙ done.1) done.2,
      omega (arith, c.loop-item.invariant.2, c.in_ok-fold.ensures.most),
    )
