use Rattle.std.proofs.Common.{◌≡◌, ◌<◌, ℕ, vec_len, get_or}
use Rattle.relax.specs.declared.shape.Statement.TheVariants.{Fixed}
use Rattle.relax.specs.Choice.{chosen}
use Rattle.program_map.specs.Private.Gathered.{want_at, want_of}
use Rattle.program_map.proofs.reasons.gathering.wants_of.Given as goal

abbrev pub invariant-loop-k : goal.invariant-loop-k
invariant-loop-k l = record {
  len : vec_len l.wants ≡ l.k;
  each : (j : ℕ) → j < l.k → want_at l.wants.items j ≡ want_of (chosen l.long j) l.statements j (get_or l.statements j (Fixed 0));
}
