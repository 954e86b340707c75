use Rattle.z80dev.proofs.laws.running.jump_step.Goals as goal
use Rattle.z80dev.proofs.Turning.{jumps, shorts}

pub returns-clause-jump : goal.returns-clause-jump
returns-clause-jump c = jumps c.turn_of_instruction.ensures

pub returns-clause-short : goal.returns-clause-short
returns-clause-short c = shorts c.turn_of_instruction.ensures
