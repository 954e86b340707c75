use Rattle.asm_line.specs.Tokens.{lexemes}
use Rattle.asm_spell.proofs.Walk.{of_tokens, spelled_refusals}
use Rattle.asm_spell.proofs.spelling.statement.Goals as goal

pub returns-in_default-clause-faults : goal.returns-in_default-clause-faults
returns-in_default-clause-faults c = of_tokens c.read.result _ (spelled_refusals (lexemes c.args.tokens.now)) c.read.ensures
