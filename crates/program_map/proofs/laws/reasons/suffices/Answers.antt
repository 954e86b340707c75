use Rattle.program_map.proofs.Reasoned.Suffices.{forces, needed}
use Rattle.program_map.proofs.laws.reasons.suffices.Goals as goal

pub returns-clause-needed : goal.returns-clause-needed
returns-clause-needed c = needed

pub returns-clause-forces : goal.returns-clause-forces
returns-clause-forces c = forces
