use Rattle.zlink.specs.Program.Faults.{enters_late}
use Rattle.zlink.proofs.Programs.Going_on.{Judging}
use Rattle.zlink.proofs.program.checks.check_entries.Given as goal

abbrev pub invariant-loop-number : goal.invariant-loop-number
invariant-loop-number l = Judging enters_late l.modules l.number l.base
