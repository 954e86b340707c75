use Rattle.machine_history.proofs.OneState.{one_session}
use Rattle.machine_history.proofs.laws.one_session.Goals as goal

pub returns : goal.returns
returns c = one_session c.one_turn.ensures
