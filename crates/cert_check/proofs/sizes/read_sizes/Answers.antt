use Rattle.cert_check.specs.Texts.{ReadsSizes}
use Rattle.cert_check.proofs.Breaks.{only}
use Rattle.cert_check.proofs.SizesTexts.{one_answer}
use Rattle.cert_check.proofs.sizes.read_sizes.Goals as goal

pub returns-clause-only : goal.returns-clause-only
returns-clause-only c = only (ReadsSizes c.args.text.now) (one_answer c.args.text.now) c.shape_of.result c.shape_of.ensures
