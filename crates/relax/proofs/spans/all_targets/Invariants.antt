use Rattle.std.proofs.Common.{◌≡◌, ℕ, ◌<◌, length, Some, slice_index}
use Rattle.std.specs.List.{slice_get}
use Rattle.relax.specs.declared.shape.Statement.{Statement}
use Rattle.relax.specs.Private.Spans.{target_of}
use Rattle.relax.proofs.spans.all_targets.Given as goal

abbrev pub invariant-loop-k : goal.invariant-loop-k
invariant-loop-k l = record {
  len : length l.targets.items ≡ length l.statements;
  each : (j : ℕ) (s : Statement) → j < l.k → slice_get l.statements j ≡ Some s → slice_index l.targets.items j ≡ target_of j s;
}
