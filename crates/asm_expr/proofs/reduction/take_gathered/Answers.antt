use Rattle.asm_parse.proofs.Judgements.{spelled_tree}
use Rattle.asm_expr.proofs.reduction.take_gathered.Goals as goal

pub returns-clause-whole : goal.returns-clause-whole
returns-clause-whole c = spelled_tree _ c.items.ensures.expr
