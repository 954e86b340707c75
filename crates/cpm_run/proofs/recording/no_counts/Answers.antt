use Rattle.cpm_run.proofs.Recorded.{none_counted}
use Rattle.cpm_run.proofs.recording.no_counts.Goals as goal

pub returns-then-wanted : goal.returns-then-wanted
returns-then-wanted c = none_counted c.args.wanted c.vec.result c.if-wanted.true c.vec.ensures.items_if_clones_equal
