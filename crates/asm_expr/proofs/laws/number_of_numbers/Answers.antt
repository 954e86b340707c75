use Rattle.asm_expr.proofs.Anywhere.{number_settled}
use Rattle.asm_expr.proofs.laws.number_of_numbers.Goals as goal

pub returns : goal.returns
returns c = number_settled
