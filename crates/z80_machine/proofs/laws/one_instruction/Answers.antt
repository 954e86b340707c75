use Rattle.z80_machine.proofs.OneTurn.{one_by_prefix}
use Rattle.z80_machine.proofs.laws.one_instruction.Goals as goal

pub returns : goal.returns
returns c = one_by_prefix c.prefix.ensures
