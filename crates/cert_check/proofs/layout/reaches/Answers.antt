use Rattle.cert_check.proofs.Bytes.{reached_ahead, reached_back}
use Rattle.cert_check.proofs.layout.reaches.Goals as goal

pub returns-then-k-target : goal.returns-then-k-target
returns-then-k-target c = reached_ahead c.args.sizes.now c.args.k c.args.target c.take_at_most.result c.if-k-target.true c.requires.jump c.requires.short c.take_at_most.ensures

pub returns-else-k-target : goal.returns-else-k-target
returns-else-k-target c = reached_back c.args.sizes.now c.args.k c.args.target c.take_at_most-else-k-target.result c.if-k-target.false c.take_at_most-else-k-target.ensures
