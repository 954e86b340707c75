use Rattle.asm_line.proofs.Rests.{last}
use Rattle.asm_line.proofs.laws.forms.rest_is_last.Goals as goal

pub returns : goal.returns
returns c = last
