use Rattle.asm_macro.proofs.FewLines.{few_lines}
use Rattle.asm_macro.proofs.laws.few_lines.Goals as goal

pub returns : goal.returns
returns c = few_lines
