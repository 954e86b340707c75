use Rattle.std.proofs.Common.{sym, ap, ◌∙◌}
use Rattle.std.specs.List.{flat_map}
use Rattle.std.specs.Option.{option_map}
use Rattle.asm_parse.specs.Values.Kept.{items_in}
use Rattle.asm_expr.proofs.Knowing.{next_known, next_lost, one_more_piece}
use Rattle.asm_expr.proofs.sharing.pieces_of.Goals as goal

pub returns-in-None : goal.returns-in-None
returns-in-None c =
    next_lost c.args.cells.now c.loop-cell.cell-index c.cell-item.result (flat_map items_in c.loop-cell.pieces.items) c.loop-cell-test.true c.cell-item.is c.loop-cell.invariant
    (sym c.in_ok-piece.ensures ∙ ap (option_map items_in) c.in-None.is)

pub loop-cell-preserved : goal.loop-cell-preserved
loop-cell-preserved c =
    next_known c.args.cells.now c.loop-cell.cell-index c.cell-item.result (flat_map items_in c.loop-cell.pieces.items) c.loop-cell-test.true c.cell-item.is c.loop-cell.invariant
    (items_in c.in-Some.piece) (flat_map items_in c.push.new.self.items) (sym c.in_ok-piece.ensures ∙ ap (option_map items_in) c.in-Some.is)
    (ap (flat_map items_in) c.in_ok-push-in-Some.ensures.items ∙ one_more_piece c.loop-cell.pieces.items c.in-Some.piece)
