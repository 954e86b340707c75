use Rattle.asm_line.proofs.Replaced.Fronts.{front_stays}
use Rattle.asm_line.proofs.laws.replacing.front_stays.Goals as goal

pub returns : goal.returns
returns c = front_stays
