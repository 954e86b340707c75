use Rattle.std.proofs.Common.{Option, sym, subst}
use Rattle.std.specs.List.{concat}
use Rattle.z80dev_jobs.specs.Runs.Playing.{IsSession}
use Rattle.machine_history.specs.declared.recorded.Recorded.{Recorded}
use Rattle.z80dev_jobs.proofs.runs.playing.run_session.Goals as goal

pub returns-in-Some : goal.returns-in-Some
returns-in-Some g c = λ program words image input is.
    let played = c.replay.result in
    subst (λ (o : Option Recorded). IsSession program words image c.args.steps o (g.K.Station.seat c.args.station.now) played.end played.turns played.pc (concat played.image) played.arrivals.items (g.K.Station.seat c.replay.new.station)) (sym c.in-Some.is) (c.replay.ensures program words image input is)

pub returns-in-None : goal.returns-in-None
returns-in-None g c = λ program words image input is.
    let played = c.play.result in
    subst (λ (o : Option Recorded). IsSession program words image c.args.steps o (g.K.Station.seat c.args.station.now) played.end played.turns played.pc (concat played.image) played.arrivals.items (g.K.Station.seat c.play.new.station)) (sym c.in-None.is) (c.play.ensures program words image input is)
