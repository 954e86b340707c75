use Rattle.cert_check.proofs.CertTexts.{one_answer}
use Rattle.cert_check.proofs.laws.files.one_cert.Goals as goal

pub returns : goal.returns
returns c = one_answer
