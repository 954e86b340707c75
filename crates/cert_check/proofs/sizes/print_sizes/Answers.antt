use Rattle.std.proofs.Common.{ap, length, subst, arith}
use Rattle.cert_check.specs.Choice.{IsShape}
use Rattle.cert_check.proofs.SizesRead.{printed}
use Rattle.cert_check.proofs.sizes.print_sizes.Goals as goal

pub returns : goal.returns
returns c = (
  subst IsShape c.statements-statement-items.ensures.value c.statements-statement-items.ensures.shape,
  printed c.args.shape.now c.loop-statement.statement-index c.loop-statement.text.items c.extend_from_slice.new.self.items
      (omega (arith, ap length c.statements-statement-items.ensures.value)) c.loop-statement.invariant c.in_ok-extend_from_slice.ensures.items,
)
