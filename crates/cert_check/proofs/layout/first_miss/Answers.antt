use Rattle.cert_check.specs.Choice.{chosen}
use Rattle.cert_check.proofs.Judged.{none_misses}
use Rattle.cert_check.proofs.layout.first_miss.Goals as goal

pub returns : goal.returns
returns c = none_misses (chosen c.args.long.now) c.args.statements.now c.loop-k.k c.loop-k-test.false c.loop-k.invariant
