use Rattle.std.proofs.Common.{◌≡◌, ◌<◌, ℕ, length, take}
use Rattle.program_map.specs.Private.Gathered.{gathered, items_at, want_at}
use Rattle.program_map.proofs.reasons.gathering.gather.Given as goal

abbrev pub invariant-loop-member : goal.invariant-loop-member
invariant-loop-member l = record {
  len : length l.reasons.items ≡ length l.wants;
  each : (k : ℕ) → k < length l.wants → items_at l.reasons.items k ≡ gathered (want_at l.wants k) k (take l.member-index l.order);
}
