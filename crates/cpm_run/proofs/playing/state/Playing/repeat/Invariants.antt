use Rattle.std.proofs.Common.{◌≡◌, ◌≤◌, [], length}
use Rattle.cpm_run.specs.Play.{PlayState, due_from, last_due}
use Rattle.cpm_console.specs.Seat.{Seat}
use Rattle.cpm_run.specs.Private.Playing.{IsQuiet, IsUnasked, Stands}
use Rattle.cpm_run.proofs.Due.{IsDueFrom}
use Rattle.cpm_run.proofs.Replayed.{KeepsTo}
use Rattle.cpm_run.proofs.playing.state.Playing.repeat.Given as goal

abbrev pub invariant-loop-arrival : goal.invariant-loop-arrival
invariant-loop-arrival g l = (l.self.turns ≤ l.limit) × IsUnasked (g.K.Station.seat l.initial.station) (g.K.Station.seat l.station)
    × (l.initial.self.arrivals.items ≡ [] → l.initial.self.turns ≡ 0 → KeepsTo (due_from 0 l.recorded) (last_due 0 l.recorded l.last) l.arrival-index l.self.turns l.self.arrivals.items × IsDueFrom l.recorded l.last l.arrival-index l.self.turns)
    × ((start : PlayState _) (before : Seat) → Stands g.S.Sectors.sectors g.S.Sectors.faults start before l.initial.self (g.K.Station.seat l.initial.station) → Stands g.S.Sectors.sectors g.S.Sectors.faults start before l.self (g.K.Station.seat l.station))
    × (l.initial.self.arrivals.items ≡ [] → length l.self.arrivals.items ≡ l.arrival-index)
    × ((before : Seat) → IsQuiet before l.initial.self (g.K.Station.seat l.initial.station) → IsQuiet before l.self (g.K.Station.seat l.station))
