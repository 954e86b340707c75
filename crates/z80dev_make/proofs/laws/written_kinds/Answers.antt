use Rattle.z80dev_make.proofs.By_kind.{of_asm, of_build, of_link}
use Rattle.z80dev_make.proofs.laws.written_kinds.Goals as goal

pub returns-clause-asm : goal.returns-clause-asm
returns-clause-asm c = of_asm

pub returns-clause-link : goal.returns-clause-link
returns-clause-link c = of_link

pub returns-clause-build : goal.returns-clause-build
returns-clause-build c = of_build
