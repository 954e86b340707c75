use Rattle.program_map.proofs.Reasoned.Suffices.{one}
use Rattle.program_map.proofs.laws.reasons.one_reason.Goals as goal

pub returns : goal.returns
returns c = one
