use Rattle.machine_history.proofs.OneStop.{one_stop}
use Rattle.machine_history.proofs.laws.one_stop.Goals as goal

pub returns : goal.returns
returns c = one_stop c.one_turn.ensures
