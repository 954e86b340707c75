use Rattle.source_warnings.proofs.Distances.{begins, ends}
use Rattle.source_warnings.proofs.laws.same_distance.Goals as goal

pub returns-clause-begins : goal.returns-clause-begins
returns-clause-begins c = begins

pub returns-clause-ends : goal.returns-clause-ends
returns-clause-ends c = ends
