use Rattle.relax.proofs.One_growth.{one_order, one_verdict}
use Rattle.relax.proofs.laws.one_growth.Goals as goal

pub returns-clause-order : goal.returns-clause-order
returns-clause-order c = one_order

pub returns-clause-verdict : goal.returns-clause-verdict
returns-clause-verdict c = one_verdict
