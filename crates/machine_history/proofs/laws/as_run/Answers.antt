use Rattle.machine_history.proofs.AsRun.{as_run}
use Rattle.machine_history.proofs.laws.as_run.Goals as goal

pub returns : goal.returns
returns c = as_run
