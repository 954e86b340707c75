use Rattle.asm_parse.proofs.Judgements.{spelled_tree}
use Rattle.asm_expr.proofs.reduction.take_expr.Goals as goal

pub returns-in-Some-clause-whole : goal.returns-in-Some-clause-whole
returns-in-Some-clause-whole c = spelled_tree _ c.in-Some.ensures.1
