use Rattle.asm_expr.proofs.Anywhere.{equated_anywhere, settled_anywhere}
use Rattle.asm_expr.proofs.laws.constant_anywhere.Goals as goal

pub returns-clause-settled : goal.returns-clause-settled
returns-clause-settled c = settled_anywhere

pub returns-clause-equated : goal.returns-clause-equated
returns-clause-equated c = equated_anywhere
