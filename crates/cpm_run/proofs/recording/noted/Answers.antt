use Rattle.std.proofs.Common.{subst}
use Rattle.cpm_run.specs.Records.{Keeps}
use Rattle.cpm_run.proofs.Recorded.{noted}
use Rattle.cpm_run.proofs.recording.noted.Goals as goal

pub returns-in-Ok : goal.returns-in-Ok
returns-in-Ok c = λ steps below keeps.
    noted c.args.wish steps c.args.step c.in_ok-first.field-0 (record { first = c.keep.new.first; last = c.keep.new.last; counts = c.count.new.counts })
    (subst (Keeps c.args.wish steps) c.in_ok-first.was keeps) (c.in-Ok.ensures.first steps) (c.in-Ok.ensures.last steps) (c.count.ensures c.args.wish.counts steps below)
