use Rattle.std.proofs.Common.{sym, ◌∙◌}
use Rattle.asm_spell.proofs.Written.{inner_is}
use Rattle.asm_spell.proofs.operand.unnamed.Goals as goal

pub returns-then-is_memory : goal.returns-then-is_memory
returns-then-is_memory c = rw (sym c.is_memory.ensures ∙ c.if-is_memory.true, ← inner_is c.args.tokens.now) c.memory.ensures
