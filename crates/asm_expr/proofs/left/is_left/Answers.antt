use Rattle.std.proofs.Common.{[], map, sym, ap, ◌∙◌}
use Rattle.asm_expr.specs.Settling.{known_item}
use Rattle.asm_expr.proofs.Again.{left_by_fold}
use Rattle.asm_expr.proofs.left.is_left.Goals as goal

pub returns-in-Ok : goal.returns-in-Ok
returns-in-Ok c is =
    let list = c.in-Some.ensures in
    let folded = c.in-Ok.ensures.folds [] c.new-out.ensures in
    let written = ap (map known_item) (sym list.0) ∙ sym (c.are_items.ensures is) ∙ c.cells.ensures ∙ folded.2 in
    left_by_fold c.args.names.now c.args.expr.now folded.0 list.1 folded.1 written
