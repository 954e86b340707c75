use Rattle.asm_line.proofs.Replaced.Lines.{alike}
use Rattle.asm_line.proofs.laws.replacing.by_names.Goals as goal

pub returns : goal.returns
returns c = alike
