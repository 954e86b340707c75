use Rattle.std.proofs.Common.{◌≡◌, ◌≤◌, ◌+◌, ℕ, length, get_or}
use Rattle.relax.specs.Choice.{chosen, bytes_before}
use Rattle.program_map.proofs.reasons.places.bytes_before.Given as goal

abbrev pub invariant-loop-k : goal.invariant-loop-k
invariant-loop-k l = record {
  len : length l.places.items ≡ length l.statements + 1;
  each : (j : ℕ) → j ≤ l.k → get_or l.places.items j 0 ≡ bytes_before (chosen l.long) l.statements j;
}
