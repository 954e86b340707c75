use Rattle.std.proofs.Common.{◌≡◌, ◌++◌, length, ap, arith, ◌∙◌}
use Rattle.asm_stmt.specs.Cells.{hole, written}
use Rattle.asm_stmt.proofs.Laying.{one_more}
use Rattle.asm_stmt.proofs.data.Laid.put.Goals as goal

pub returns : goal.returns
returns c = λ cells l.
    let offset : c.len-offset.result ≡ length c.args.self.now.bytes.items = omega (arith, c.len-offset.ensures) in
    one_more cells c.args.cell c.args.self.now _ l
    (c.in_ok-put_number.ensures ∙ ap (λ n. c.args.self.now.bytes.items ++ written c.args.cell.width n) c.number_or_0.ensures)
    (c.in_ok-put_hole.ensures ∙ ap (λ n. c.args.self.now.holes.items ++ hole n c.args.cell.width c.args.cell.filling) offset)
    c.still_told-self.ensures
