use Rattle.asm_spell.proofs.Cuts.{closed_is}
use Rattle.asm_spell.proofs.laws.enclosed.Goals as goal

pub returns : goal.returns
returns c = closed_is
