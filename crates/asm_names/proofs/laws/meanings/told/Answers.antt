use Rattle.asm_names.proofs.Turning.{tells}
use Rattle.asm_names.proofs.laws.meanings.told.Goals as goal

pub returns : goal.returns
returns c = tells
