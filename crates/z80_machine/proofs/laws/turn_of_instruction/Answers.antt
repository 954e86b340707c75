use Rattle.z80_machine.proofs.laws.turn_of_instruction.Goals as goal
use Rattle.z80_machine.proofs.OneTurn.{its_turn, is_its}

pub returns : goal.returns
returns c = λ instr size step old new there. (its_turn c.one_instruction.ensures instr size step old new there, is_its instr size step old new there)
