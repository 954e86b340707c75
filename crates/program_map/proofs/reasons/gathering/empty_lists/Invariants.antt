use Rattle.std.proofs.Common.{◌≡◌, ℕ, [], vec_len}
use Rattle.program_map.specs.Private.Gathered.{items_at}
use Rattle.program_map.proofs.reasons.gathering.empty_lists.Given as goal

abbrev pub invariant-loop : goal.invariant-loop
invariant-loop l = record {
  len : vec_len l.lists ≡ l.counter;
  each : (k : ℕ) → items_at l.lists.items k ≡ [];
}
