use Rattle.asm_expr.proofs.Valued.{valued_settled}
use Rattle.asm_expr.proofs.laws.valued.Goals as goal

pub returns : goal.returns
returns c = valued_settled
