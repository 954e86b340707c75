use Rattle.machine_history.proofs.OneState.{one_state}
use Rattle.machine_history.proofs.laws.one_state.Goals as goal

pub returns : goal.returns
returns c = one_state c.one_turn.ensures
