use Rattle.z80_machine.proofs.OneTurn.{same_turn}
use Rattle.z80_machine.proofs.laws.one_turn.Goals as goal

pub returns : goal.returns
returns c = same_turn c.one_instruction.ensures
