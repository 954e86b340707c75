use Rattle.asm_spell.proofs.laws.content.Goals as goal
use Rattle.asm_spell.proofs.Lists.{content_is}

pub returns : goal.returns
returns c = content_is
