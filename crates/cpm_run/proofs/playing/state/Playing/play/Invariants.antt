use Rattle.std.proofs.Common.{◌≤◌, ◌-◌}
use Rattle.cpm_run.specs.Play.{PlayState}
use Rattle.cpm_console.specs.Seat.{Seat}
use Rattle.cpm_run.specs.Private.Playing.{Begins, Rests}
use Rattle.cpm_run.proofs.playing.state.Playing.play.Given as goal

abbrev pub invariant-loop-end : goal.invariant-loop-end
invariant-loop-end g l = (l.self.turns ≤ l.limit)
    × ((start : PlayState _) (before : Seat) → Begins g.S.Sectors.sectors g.S.Sectors.faults start before l.initial.self (g.K.Station.seat l.initial.station) → Begins g.S.Sectors.sectors g.S.Sectors.faults start before l.self (g.K.Station.seat l.station))
    × ((start : PlayState _) (before : Seat) → Rests g.S.Sectors.sectors g.S.Sectors.faults start before l.initial.self (g.K.Station.seat l.initial.station) → Rests g.S.Sectors.sectors g.S.Sectors.faults start before l.self (g.K.Station.seat l.station))

abbrev pub decreases-loop-end : goal.decreases-loop-end
decreases-loop-end g l = l.limit - l.self.turns
