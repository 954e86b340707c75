use Rattle.asm_spell.proofs.Unworded.{unworded}
use Rattle.asm_spell.proofs.spelling.read.Goals as goal

pub returns-in-len1-up : goal.returns-in-len1-up
returns-in-len1-up c = unworded c.form_of.result _ c.form_of.ensures c.in-Nothing.is c.in-len1-up.len_at_least
