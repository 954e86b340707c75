use Rattle.cert_check.proofs.Checked.{one_answer}
use Rattle.cert_check.proofs.laws.answers.one_answer.Goals as goal

pub returns : goal.returns
returns c = one_answer c.one_shape.ensures c.one_cert.ensures
