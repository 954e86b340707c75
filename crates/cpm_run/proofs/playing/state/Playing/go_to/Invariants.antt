use Rattle.std.proofs.Common.{◌≡◌, ◌≤◌, ◌-◌, max}
use Rattle.cpm_run.specs.Play.{PlayState}
use Rattle.cpm_console.specs.Seat.{Seat}
use Rattle.cpm_run.specs.Private.Playing.{IsQuiet, IsUnasked, Stands}
use Rattle.cpm_run.proofs.playing.state.Playing.go_to.Given as goal

abbrev pub invariant-loop-end : goal.invariant-loop-end
invariant-loop-end g l = (l.self.turns ≤ l.limit) × (l.self.turns ≤ max l.initial.self.turns l.target) × (l.initial.self.turns ≤ l.self.turns) × (l.self.arrivals.items ≡ l.initial.self.arrivals.items)
    × IsUnasked (g.K.Station.seat l.initial.station) (g.K.Station.seat l.station)
    × ((start : PlayState _) (before : Seat) → Stands g.S.Sectors.sectors g.S.Sectors.faults start before l.initial.self (g.K.Station.seat l.initial.station) → Stands g.S.Sectors.sectors g.S.Sectors.faults start before l.self (g.K.Station.seat l.station))
    × ((before : Seat) → IsQuiet before l.initial.self (g.K.Station.seat l.initial.station) → IsQuiet before l.self (g.K.Station.seat l.station))

abbrev pub decreases-loop-end : goal.decreases-loop-end
decreases-loop-end g l = l.limit - l.self.turns
