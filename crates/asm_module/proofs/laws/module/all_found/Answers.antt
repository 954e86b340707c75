use Rattle.asm_module.proofs.Modules.Found.{settled_found}
use Rattle.asm_module.proofs.laws.module.all_found.Goals as goal

pub returns : goal.returns
returns c = settled_found
