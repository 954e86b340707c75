use Rattle.std.proofs.Common.{ℕ}
use Rattle.zlink.specs.Program.Faults.{begins_late}
use Rattle.zlink.proofs.Programs.Going_on.{Judging}
use Rattle.zlink.proofs.program.checks.check_begins.Given as goal

abbrev pub invariant-loop-number : goal.invariant-loop-number
invariant-loop-number l = (base : ℕ) × Judging begins_late l.modules l.number base
