use Rattle.asm_line.proofs.Cuts.{one_answer}
use Rattle.asm_line.proofs.laws.tokens.one_answer.Goals as goal

pub returns : goal.returns
returns c = one_answer
