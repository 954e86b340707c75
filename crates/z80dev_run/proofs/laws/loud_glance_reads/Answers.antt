use Rattle.z80dev_run.proofs.Loud.{asking_changes_nothing, loud_is_read}
use Rattle.z80dev_run.proofs.laws.loud_glance_reads.Goals as goal

pub returns-clause-reads : goal.returns-clause-reads
returns-clause-reads c = λ r shown turns most much. loud_is_read shown r turns most much

pub returns-clause-between : goal.returns-clause-between
returns-clause-between c = λ r turns patience. asking_changes_nothing r turns patience
