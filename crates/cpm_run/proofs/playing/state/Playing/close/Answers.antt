use Rattle.std.proofs.Common.{subst}
use Rattle.cpm_run.specs.Private.Playing.{Ends, HasStopped}
use Rattle.cpm_run.specs.declared.arriving.PlayEnd.{PlayEnd}
use Rattle.cpm_run.proofs.Looking.{closed_failed, closed_run, fed_to_the_end, stopped_with}
use Rattle.cpm_run.proofs.Sitting.{closed, unclosed, unshown}
use Rattle.cpm_run.proofs.playing.state.Playing.close.Goals as goal

pub returns-in-Ok-clause-ended : goal.returns-in-Ok-clause-ended
returns-in-Ok-clause-ended g c = λ limit start before ends stopped.
    let seat = g.K.Station.seat c.args.station.now in
    let ended = subst (λ (e : PlayEnd). Ends g.S.Sectors.sectors g.S.Sectors.faults limit e start before c.args.self.now seat) c.in-Run.is ends in
    let over = subst (λ (e : PlayEnd). HasStopped g.S.Sectors.sectors g.S.Sectors.faults e start before c.args.self.now seat) c.in-Run.is stopped in
    let all = c.in-Ok.ensures.all before ended.0.shown ended.0.seen in
    closed _ _ limit c.in-Run.why start before seat (g.K.Station.seat c.show.new.station) c.args.self.now all.0 ended c.show.ensures.keys (λ e. fed_to_the_end _ _ c.in-Run.why start before seat c.args.self.now over e) all.1 all.2

pub returns-in-Err-clause-ended : goal.returns-in-Err-clause-ended
returns-in-Err-clause-ended g c = λ limit start before ends stopped.
    let seat = g.K.Station.seat c.args.station.now in
    let ended = subst (λ (e : PlayEnd). Ends g.S.Sectors.sectors g.S.Sectors.faults limit e start before c.args.self.now seat) c.in-Run.is ends in
    unshown _ _ limit c.in-Run.why start before seat (g.K.Station.seat c.show.new.station) c.args.self.now ended

pub returns-in_default-clause-ended : goal.returns-in_default-clause-ended
returns-in_default-clause-ended g c = λ limit start before ends stopped. unclosed _ _ limit c.args.end start before _ c.args.self.now c.in_default.not-Run ends

pub returns-in-Ok-clause-looks : goal.returns-in-Ok-clause-looks
returns-in-Ok-clause-looks g c = λ start before ended.
    let old = g.K.Station.seat c.args.station.now in
    let new = g.K.Station.seat c.show.new.station in
    let over = subst (λ (e : PlayEnd). HasStopped g.S.Sectors.sectors g.S.Sectors.faults e start before c.args.self.now old) c.in-Run.is ended in
    let rest = c.in-Ok.ensures.events in
    closed_run _ _ c.in-Run.why start before old new c.args.self.now rest.0 over rest.1 rest.2

pub returns-in-Err-clause-looks : goal.returns-in-Err-clause-looks
returns-in-Err-clause-looks g c = λ start before ended.
    let old = g.K.Station.seat c.args.station.now in
    let new = g.K.Station.seat c.show.new.station in
    let over = subst (λ (e : PlayEnd). HasStopped g.S.Sectors.sectors g.S.Sectors.faults e start before c.args.self.now old) c.in-Run.is ended in
    closed_failed _ _ Unit c.in-Err.field-0 c.in-Run.why start before old new c.args.self.now over c.in-Err.ensures.events

pub returns-in_default-clause-looks : goal.returns-in_default-clause-looks
returns-in_default-clause-looks g c = λ start before ended. stopped_with _ _ c.args.end start before (g.K.Station.seat c.args.station.now) c.args.self.now c.in_default.not-Run ended
