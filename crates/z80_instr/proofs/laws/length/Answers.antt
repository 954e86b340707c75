use Rattle.z80_instr.proofs.Lengths.{bounds}
use Rattle.z80_instr.proofs.laws.length.Goals as goal

pub returns-clause-least : goal.returns-clause-least
returns-clause-least c = λ instr. (bounds instr).0

pub returns-clause-most : goal.returns-clause-most
returns-clause-most c = λ instr. (bounds instr).1
