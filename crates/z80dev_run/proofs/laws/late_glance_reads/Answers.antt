use Rattle.z80dev_run.proofs.Late.{late_is_read}
use Rattle.z80dev_run.proofs.laws.late_glance_reads.Goals as goal

pub returns : goal.returns
returns c = λ r last turns before late. late_is_read r last turns before late
