use Rattle.cert_check.proofs.Checked.{only}
use Rattle.cert_check.proofs.checker.check.Goals as goal

pub returns-clause-only : goal.returns-clause-only
returns-clause-only c = only c.args.sizes.now c.args.cert.now (c.one_answer.ensures c.args.sizes.now c.args.cert.now) c.judged.result c.judged.ensures
