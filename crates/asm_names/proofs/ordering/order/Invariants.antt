use Rattle.std.proofs.Common.{◌≡◌, ◌≢◌, ◌<◌, ℕ, []}
use Rattle.asm_names.specs.declared.walk.Seen.{Seen}
use Rattle.asm_names.specs.Private.Standing.{Standing, seen_at}
use Rattle.asm_names.proofs.ordering.order.Given as goal

abbrev pub invariant-loop-definition : goal.invariant-loop-definition
invariant-loop-definition l = record {
  standing : Standing l.uses l.walk;
  empty : l.walk.path.items ≡ [];
  seen : (k : ℕ) → k < l.definition → seen_at l.walk.seen.items k ≢ Seen.Not;
}
