use Rattle.std.proofs.Common.{◌≡◌, ℕ, ◌+◌, ◌≤◌, length, slice_index}
use Rattle.relax.specs.Choice.{bytes_before}
use Rattle.relax.specs.Private.Spans.{none_long}
use Rattle.relax.proofs.spans.all_places.Given as goal

abbrev pub invariant-loop-k : goal.invariant-loop-k
invariant-loop-k l = record {
  len : length l.places.items ≡ length l.statements + 1;
  each : (j : ℕ) → j ≤ l.k → slice_index l.places.items j ≡ bytes_before none_long l.statements j;
}
