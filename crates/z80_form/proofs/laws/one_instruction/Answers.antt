use Rattle.z80_form.proofs.laws.one_instruction.Goals as goal
use Rattle.z80_form.proofs.Texts.{one_blank, one_size}

pub returns-clause-instr : goal.returns-clause-instr
returns-clause-instr c = one_blank

pub returns-clause-size : goal.returns-clause-size
returns-clause-size c = one_size
