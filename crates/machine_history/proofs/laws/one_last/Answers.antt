use Rattle.machine_history.proofs.OneStop.{one_last}
use Rattle.machine_history.proofs.laws.one_last.Goals as goal

pub returns : goal.returns
returns c = one_last c.one_turn.ensures
