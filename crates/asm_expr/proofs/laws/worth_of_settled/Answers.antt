use Rattle.asm_expr.proofs.Worths as worths
use Rattle.asm_expr.proofs.laws.worth_of_settled.Goals as goal

pub returns : goal.returns
returns c = worths.worth_of_settled
