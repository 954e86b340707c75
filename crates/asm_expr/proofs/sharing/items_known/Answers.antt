use Rattle.std.proofs.Common.{Some, None, if◌then◌else◌, ap, ◌∙◌}
use Rattle.asm_expr.proofs.Knowing.{next_kept, next_none}
use Rattle.asm_expr.proofs.sharing.items_known.Goals as goal

pub returns-then-not-branch : goal.returns-then-not-branch
returns-then-not-branch c =
    next_none c.args.cells.now c.loop-cell.cell-index c.cell-item.result c.loop-cell.known.items c.loop-cell-test.true c.cell-item.is c.loop-cell.invariant
    (c.in_ok-add_known.ensures ∙ ap (λ b. if b then Some c.add_known.new.known.items else None) c.if-not-branch.true)

pub loop-cell-preserved : goal.loop-cell-preserved
loop-cell-preserved c =
    next_kept c.args.cells.now c.loop-cell.cell-index c.cell-item.result c.loop-cell.known.items c.loop-cell-test.true c.cell-item.is c.loop-cell.invariant
    c.add_known.new.known.items (c.in_ok-add_known.ensures ∙ ap (λ b. if b then Some c.add_known.new.known.items else None) c.if-not-branch.false)
