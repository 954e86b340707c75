use Rattle.z80dev.proofs.laws.running.code_step.Goals as goal
use Rattle.z80dev.proofs.Turning.{codes}

pub returns : goal.returns
returns c = codes c.turn_of_instruction.ensures c.length.ensures.most
