use Rattle.machine_history.specs.Stops.{IsLastBefore}
use Rattle.machine_history.specs.Walk.{IsAfter}
use Rattle.machine_history.proofs.history.History.last.Given as goal

abbrev pub invariant-loop-number : goal.invariant-loop-number
invariant-loop-number l = record { known : IsLastBefore l.stops l.self.start l.number l.point l.last; all : IsAfter l.self.start l.number l.point }
