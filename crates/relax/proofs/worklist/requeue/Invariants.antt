use Rattle.std.proofs.Common.{◌≡◌, ℕ, ◌+◌, ◌<◌, ◌≤◌, true, false}
use Rattle.relax.specs.Choice.{chosen}
use Rattle.relax.specs.Private.Worklist.{statement_of, target_of, PassesOver, pending_count}
use Rattle.relax.proofs.worklist.requeue.Given as goal

abbrev pub invariant-loop-p : goal.invariant-loop-p
invariant-loop-p l = record {
  kept : (q : ℕ) → chosen l.initial.pending q ≡ true → chosen l.pending q ≡ true;
  requeued : (q : ℕ) → l.low ≤ q → q < l.p → chosen l.long q ≡ false → PassesOver (statement_of l.jumps q) (target_of l.jumps q) l.k → chosen l.pending q ≡ true;
  short : (q : ℕ) → chosen l.initial.pending q ≡ false → chosen l.pending q ≡ true → chosen l.long q ≡ false;
  below : (q : ℕ) → q < l.low → chosen l.pending q ≡ chosen l.initial.pending q;
  least : pending_count l.initial.pending ≤ pending_count l.pending;
  most : pending_count l.pending + l.low ≤ pending_count l.initial.pending + l.p;
}
