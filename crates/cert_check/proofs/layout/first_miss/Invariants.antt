use Rattle.std.proofs.Common.{ℕ, ◌<◌}
use Rattle.cert_check.specs.Choice.{chosen}
use Rattle.cert_check.specs.Faults.{IsStillShort}
use Rattle.cert_check.proofs.layout.first_miss.Given as goal

abbrev pub invariant-loop-k : goal.invariant-loop-k
invariant-loop-k l = (j : ℕ) → j < l.k → ¬ IsStillShort (chosen l.long) l.statements j
