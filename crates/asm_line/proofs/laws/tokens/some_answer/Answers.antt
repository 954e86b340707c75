use Rattle.asm_line.proofs.Cuts.{scans}
use Rattle.asm_line.specs.Scanned.{scanned}
use Rattle.asm_line.proofs.laws.tokens.some_answer.Goals as goal

pub returns : goal.returns
returns c = λ line. (scanned line, scans line)
