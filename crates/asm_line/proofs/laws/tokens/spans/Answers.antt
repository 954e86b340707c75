use Rattle.asm_line.proofs.Cuts.{spans}
use Rattle.asm_line.proofs.laws.tokens.spans.Goals as goal

pub returns : goal.returns
returns c = λ line tokens cut. spans line cut.rest tokens cut.begins
