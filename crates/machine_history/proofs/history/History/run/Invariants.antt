use Rattle.std.proofs.Common.{◌≡◌, ◌+◌}
use Rattle.machine_history.specs.Stops.{holds}
use Rattle.machine_history.specs.Walk.{IsTrue_of_run, LeadsBy}
use Rattle.machine_history.proofs.history.History.run.Given as goal

abbrev pub invariant-loop : goal.invariant-loop
invariant-loop l = record {
  start : l.self.start ≡ l.initial.self.start;
  turn : l.self.turn ≡ l.initial.self.turn + l.counter;
  leads : LeadsBy (holds l.goal l.stops) l.counter l.initial.self.point l.self.point;
  after : IsTrue_of_run l.self;
}
