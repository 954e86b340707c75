use Rattle.std.proofs.Common.{◌≡◌, ◌≤◌, ◌-◌}
use Rattle.machine_history.proofs.history.History.forward.Given as goal

abbrev pub invariant-loop-self : goal.invariant-loop-self
invariant-loop-self l = record { start : l.self.start ≡ l.initial.self.start; bound : l.self.turn ≤ l.turn }

abbrev pub decreases-loop-self : goal.decreases-loop-self
decreases-loop-self l = l.turn - l.self.turn
