use Rattle.std.proofs.Common.{◌≡◌, ◌++◌, drop, map}
use Rattle.machine_history.specs.Coming.{due}
use Rattle.machine_history.proofs.coming.due_bytes.Given as goal

abbrev pub invariant-loop-arrival : goal.invariant-loop-arrival
invariant-loop-arrival l = l.bytes.items ++ map (λ arrival. arrival.byte) (due l.turns (drop l.arrival-index l.coming)) ≡ map (λ arrival. arrival.byte) (due l.turns l.coming)
