use Rattle.std.proofs.Common.{◌≡◌, ℕ, ◌<◌, length, slice_index}
use Rattle.relax.specs.Private.Spans.{IsSpan}
use Rattle.relax.proofs.spans.all_spans.Given as goal

abbrev pub invariant-loop-k : goal.invariant-loop-k
invariant-loop-k l = record {
  len : length l.spans.items ≡ length l.targets;
  each : (j : ℕ) → j < l.k → IsSpan (slice_index l.places j) (slice_index l.places (slice_index l.targets j)) (slice_index l.spans.items j);
}
