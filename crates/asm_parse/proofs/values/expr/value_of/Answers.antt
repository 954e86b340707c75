use Rattle.std.proofs.Common.{◌<◌, length, arith}
use Rattle.asm_parse.specs.Types.{Item, Atom}
use Rattle.asm_parse.specs.Values.Items.{IsExpr}
use Rattle.asm_parse.proofs.Postfix.{next, run-whole}
use Rattle.asm_parse.proofs.ValueStack.{enough, end, refs_at}
use Rattle.asm_parse.proofs.values.expr.value_of.Goals as goal

pub take_item-len-requires-clause-operands : goal.take_item-len-requires-clause-operands
take_item-len-requires-clause-operands c =
    let expr : IsExpr c.args.items.now = c.requires.expr in
    let v = c.loop-item.invariant in
    let n = next _ c.loop-item.item-index (Item.Leaf (Atom.Number 0)) v.values _ (run-whole _ expr.tree expr.spelled) v.runs (omega arith) in
    enough _ _ v.values n.0 _ _ v.stacked n.1

pub take_item-len-requires-clause-placed : goal.take_item-len-requires-clause-placed
take_item-len-requires-clause-placed c =
    refs_at (λ r. r < length c.args.places.now) c.args.items.now c.loop-item.item-index (Item.Leaf (Atom.Number 0)) (omega arith) c.requires.placed

pub loop-item-preserved : goal.loop-item-preserved
loop-item-preserved c =
    let expr : IsExpr c.args.items.now = c.requires.expr in
    let v = c.loop-item.invariant in
    let n = next _ c.loop-item.item-index (Item.Leaf (Atom.Number 0)) v.values _ (run-whole _ expr.tree expr.spelled) v.runs (omega arith) in
    record { values = n.0; runs = n.2; stacked = c.take_item-len.ensures.values v.values n.0 v.stacked n.1; few = omega arith }

pub returns : goal.returns
returns c =
    let expr : IsExpr c.args.items.now = c.requires.expr in
    end _ _ _ _ _ expr (omega arith) c.loop-item.invariant
