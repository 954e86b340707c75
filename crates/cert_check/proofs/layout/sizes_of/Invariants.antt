use Rattle.std.proofs.Common.{◌≡◌, ℕ, ◌<◌, All, length, get_or}
use Rattle.cert_check.specs.Choice.{chosen, size_at}
use Rattle.cert_check.specs.Private.Following.{IsSize}
use Rattle.cert_check.proofs.layout.sizes_of.Given as goal

abbrev pub invariant-loop-k : goal.invariant-loop-k
invariant-loop-k l = record {
  count : length l.sizes.items ≡ l.k;
  each : (j : ℕ) → j < l.k → get_or l.sizes.items j 0 ≡ size_at (chosen l.long) l.statements j;
  bytes : All IsSize l.sizes.items;
}
