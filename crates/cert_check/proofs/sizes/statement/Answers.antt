use Rattle.cert_check.proofs.SizesRead.{fixed_read, none_read}
use Rattle.cert_check.proofs.sizes.statement.Goals as goal

pub returns-in-Some : goal.returns-in-Some
returns-in-Some c = fixed_read c.args.line.now c.in-Some.n c.fixed.result c.in-Some.ensures.0 c.in-Some.ensures.1 c.fixed.ensures

pub returns-in_err-t : goal.returns-in_err-t
returns-in_err-t c = rw c.from_residual.ensures (none_read c.args.line.now c.in_default.ensures c.in_default-target.ensures c.in_err-t.ensures)
