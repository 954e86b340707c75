use Rattle.std.proofs.lemmas.Result.{IfOk-weaker}
use Rattle.source_errors.specs.Found as whole
use Rattle.source_errors.proofs.whole.find_errors.Goals as goal

pub returns-in-Ok : goal.returns-in-Ok
returns-in-Ok c = IfOk-weaker c.errors_in.result _ _ (λ f are. whole.whole c.in-Ok.ensures are) c.errors_in.ensures
