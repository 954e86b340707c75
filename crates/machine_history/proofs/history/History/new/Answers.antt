use Rattle.std.proofs.Common.{ap, arith, length}
use Rattle.machine_history.specs.Walk.{MemoryState, never}
use Rattle.machine_history.proofs.Going.{begun, none_kept}
use Rattle.machine_history.proofs.history.History.new.Goals as goal

pub invariant_of-result : goal.invariant_of-result
invariant_of-result c = record {
  first = ap (λ (s : MemoryState). s.turns) c.new-start.ensures;
  kept_are = none_kept c.new-start.result c.new.result.states.items c.new.ensures;
  few = (let none = ap length c.new.ensures in omega (arith, none));
  now_is = begun never c.new-start.result c.in_ok-copied.field-0 c.first-point.result c.first-point.ensures c.in_ok-copied.ensures;
}
