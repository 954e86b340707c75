use Rattle.asm_line.proofs.Cuts.{scans}
use Rattle.asm_line.proofs.laws.tokens.scanned.Goals as goal

pub returns : goal.returns
returns c = scans
