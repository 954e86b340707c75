use Rattle.std.proofs.Common.{rules}
use Rattle.cpm_run.proofs.Recorded.{counted_in}
use Rattle.cpm_run.proofs.recording.count.Goals as goal

pub returns-then-address-len : goal.returns-then-address-len
returns-then-address-len c = λ wanted steps below are.
    counted_in wanted steps c.args.step c.args.counts.now.items c.saturating_add.result c.len.result c.index.result.now (search rules) c.if-address-len.true c.index.ensures c.saturating_add.ensures below are
