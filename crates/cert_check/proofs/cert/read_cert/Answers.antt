use Rattle.cert_check.specs.Texts.{ReadsCert, answered_certificate}
use Rattle.cert_check.proofs.Breaks.{only}
use Rattle.cert_check.proofs.CertTexts.{one_answer}
use Rattle.cert_check.proofs.cert.read_cert.Goals as goal

pub returns-clause-only : goal.returns-clause-only
returns-clause-only c = only (ReadsCert c.args.text.now) (one_answer c.args.text.now) (answered_certificate c.cert_of.result) c.cert_of.ensures
