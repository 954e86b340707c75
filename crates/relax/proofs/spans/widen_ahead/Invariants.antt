use Rattle.std.proofs.Common.{◌≡◌, ℕ, ◌+◌, ◌<◌, ◌≤◌, length, min, slice_index}
use Rattle.relax.proofs.spans.widen_ahead.Given as goal

abbrev pub invariant-loop-j : goal.invariant-loop-j
invariant-loop-j l = record {
  len : length l.spans ≡ length l.initial.spans;
  over : (i : ℕ) → l.low ≤ i → i < l.j → l.k < slice_index l.targets i → slice_index l.spans i ≡ min (slice_index l.initial.spans i + 1) 255;
  apart : (i : ℕ) → slice_index l.targets i ≤ l.k → slice_index l.spans i ≡ slice_index l.initial.spans i;
  below : (i : ℕ) → i < l.low → slice_index l.spans i ≡ slice_index l.initial.spans i;
  above : (i : ℕ) → l.j ≤ i → slice_index l.spans i ≡ slice_index l.initial.spans i;
}
