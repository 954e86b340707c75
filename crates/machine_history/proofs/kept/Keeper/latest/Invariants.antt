use Rattle.std.proofs.Common.{◌≤◌}
use Rattle.std.specs.Prelude.{All, IfSome}
use Rattle.machine_history.specs.Private.Kept.{IsKept}
use Rattle.machine_history.specs.Walk.{MemoryState}
use Rattle.machine_history.proofs.kept.Keeper.latest.Given as goal

abbrev pub invariant-loop-kept : goal.invariant-loop-kept
invariant-loop-kept l = record {
  within : IfSome l.latest (λ k. k.now.turn ≤ l.turn);
  known : (start : MemoryState) → All (IsKept start) l.self.states.items → IfSome l.latest (λ k. IsKept start k.now);
}
