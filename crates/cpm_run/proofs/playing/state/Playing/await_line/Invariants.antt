use Rattle.std.proofs.Common.{◌≡◌, ◌≤◌, ◌<◌, ◌+◌, [], ℕ, Some}
use Rattle.cpm_run.specs.Looks.{Attention, waits_after}
use Rattle.cpm_run.specs.Play.{PlayState}
use Rattle.cpm_console.specs.Seat.{Seat}
use Rattle.cpm_run.specs.Private.Playing.{BeginsEcho, MakesNoStep, Waits, Watched}
use Rattle.cpm_run.proofs.playing.state.Playing.await_line.Given as goal

abbrev pub invariant-loop-look : goal.invariant-loop-look
invariant-loop-look g l = MakesNoStep l.initial.self l.self
    × ((limit : ℕ) (start : PlayState _) (before : Seat) → Waits g.S.Sectors.sectors g.S.Sectors.faults limit start before l.initial.self (g.K.Station.seat l.initial.station) → Waits g.S.Sectors.sectors g.S.Sectors.faults limit start before l.self (g.K.Station.seat l.station))
    × ((start : PlayState _) (before : Seat) (a : Attention) → Watched g.S.Sectors.sectors g.S.Sectors.faults start before l.initial.self (g.K.Station.seat l.initial.station) a → l.initial.self.bdos.terminal.console.output ≡ Some []
    → l.initial.self.ahead.items ≡ []
    → l.initial.self.turns < l.initial.self.looked + 2000000
    → (b : Attention) × Watched g.S.Sectors.sectors g.S.Sectors.faults start before l.self (g.K.Station.seat l.station) b × (l.look ≤ waits_after l.initial.self.turns b.events) × (l.self.bdos.terminal.console.output ≡ Some []) × (l.self.turns < l.self.looked + 2000000) × BeginsEcho l.self)
