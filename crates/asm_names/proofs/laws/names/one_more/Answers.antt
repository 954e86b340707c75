use Rattle.asm_names.proofs.TakenUp.{names_more}
use Rattle.asm_names.proofs.laws.names.one_more.Goals as goal

pub returns : goal.returns
returns c = names_more
