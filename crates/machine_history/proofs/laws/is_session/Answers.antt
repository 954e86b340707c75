use Rattle.machine_history.proofs.AsSession.{is_session}
use Rattle.machine_history.proofs.laws.is_session.Goals as goal

pub returns : goal.returns
returns c = is_session
