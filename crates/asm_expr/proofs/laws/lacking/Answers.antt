use Rattle.asm_expr.proofs.Lacking.{lacking_settled}
use Rattle.asm_expr.proofs.laws.lacking.Goals as goal

pub returns : goal.returns
returns c = lacking_settled
