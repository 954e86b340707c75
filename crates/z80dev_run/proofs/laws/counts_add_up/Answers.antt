use Rattle.z80dev_run.proofs.Totals.{add_up}
use Rattle.z80dev_run.proofs.laws.counts_add_up.Goals as goal

pub returns : goal.returns
returns c = λ steps counts all are. add_up steps counts 65536 are.0 all are.1
