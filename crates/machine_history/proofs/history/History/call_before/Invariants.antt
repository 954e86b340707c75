use Rattle.machine_history.specs.Calls.{IsCallTo}
use Rattle.machine_history.specs.Walk.{IsAfter}
use Rattle.machine_history.proofs.history.History.call_before.Given as goal

abbrev pub invariant-loop-number : goal.invariant-loop-number
invariant-loop-number l = record { known : IsCallTo l.place l.self.start l.number l.point l.call; all : IsAfter l.self.start l.number l.point }
