use Rattle.asm_parse.proofs.Postfix as postfix
use Rattle.asm_parse.proofs.laws.values.one_expression.Goals as goal

pub returns : goal.returns
returns c = λ a b same. postfix.one_expression a b same
