use Rattle.asm_expr.proofs.Steps.{source_whole}
use Rattle.asm_expr.proofs.laws.same_source.Goals as goal

pub returns : goal.returns
returns c = source_whole
