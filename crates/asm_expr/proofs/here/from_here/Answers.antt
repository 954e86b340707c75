use Rattle.std.proofs.Common.{◌-◌, length, take, drop, sym, arith}
use Rattle.asm_expr.proofs.Heads.{ends, found, not_found}
use Rattle.asm_expr.proofs.here.from_here.Goals as goal

pub returns-then-leaves_one : goal.returns-then-leaves_one
returns-then-leaves_one c =
    let xs = c.args.items.now in
    let cut = ends xs c.first-item.result c.last-item.result (omega (arith, c.in-len2-up.len_at_least)) c.first-item.is c.last-item.is in
    found xs (take (length xs - 1 - 1) (drop 1 xs)) c.first-item.result c.last-item.result c.in_ok-op.op cut (sym c.in_ok-op.ensures) (sym c.if-leaves_one.ensures)

pub returns-else-leaves_one : goal.returns-else-leaves_one
returns-else-leaves_one c =
    let xs = c.args.items.now in
    let cut = ends xs c.first-item.result c.last-item.result (omega (arith, c.in-len2-up.len_at_least)) c.first-item.is c.last-item.is in
    not_found xs (take (length xs - 1 - 1) (drop 1 xs)) c.first-item.result c.last-item.result cut (sym c.if-leaves_one.ensures)
