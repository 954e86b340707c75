use Rattle.cert_check.proofs.SizesTexts.{one_answer}
use Rattle.cert_check.proofs.laws.files.one_shape.Goals as goal

pub returns : goal.returns
returns c = one_answer
