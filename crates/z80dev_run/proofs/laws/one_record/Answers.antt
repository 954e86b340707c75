use Rattle.std.proofs.Common.{sym, ◌∙◌}
use Rattle.machine_history.proofs.OneRecord.{one_record}
use Rattle.z80dev_run.proofs.laws.one_record.Goals as goal

pub returns : goal.returns
returns c = λ text a b m n p q lt less one two. one_record a b m n p q lt less (sym one.is ∙ two.is)
