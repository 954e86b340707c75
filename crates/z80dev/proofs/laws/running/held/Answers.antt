use Rattle.z80dev.proofs.laws.running.held.Goals as goal
use Rattle.z80dev.proofs.Standing.{held, all_held}

pub returns : goal.returns
returns c = λ memory file room. (λ is i lt. held memory file 256 i is lt, λ each. all_held memory file 256 room each)
