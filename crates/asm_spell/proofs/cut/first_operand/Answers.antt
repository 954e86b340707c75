use Rattle.asm_spell.proofs.Pieces.{one_operand, more_operands}
use Rattle.asm_spell.proofs.cut.first_operand.Goals as goal

pub returns-in-empty-clause-pieces : goal.returns-in-empty-clause-pieces
returns-in-empty-clause-pieces c = one_operand c.args.tokens.now _ _ _ c.first_len.ensures.len c.split_at.ensures.front c.split_at.ensures.back c.in-empty.len_below

pub returns-in-len1-up-clause-pieces : goal.returns-in-len1-up-clause-pieces
returns-in-len1-up-clause-pieces c = more_operands c.args.tokens.now _ _ _ c.first_len.ensures.len c.split_at.ensures.front c.split_at.ensures.back c.in-len1-up.len_at_least
