use Rattle.std.proofs.Common.{inl, inr, subst}
use Rattle.cpm_run.specs.Private.Playing.{EndsTold, RepeatsTo, state_of}
use Rattle.cpm_run.specs.declared.arriving.PlayEnd.{PlayEnd}
use Rattle.cpm_run.proofs.Looking.{refused_of}
use Rattle.cpm_run.proofs.Replayed.{failed_again, refused_last}
use Rattle.cpm_run.proofs.playing.state.Playing.finish.Goals as goal

pub returns-in-Err-clause-ended : goal.returns-in-Err-clause-ended
returns-in-Err-clause-ended g c = λ limit last start before ends unasked told.
    let mid = g.K.Station.seat c.args.station.now in
    let after = g.K.Station.seat c.show.new.station in
    let stands = subst (λ (e : PlayEnd). RepeatsTo g.S.Sectors.sectors g.S.Sectors.faults limit last e start before c.args.self.now mid) c.in-NoMemory.is ends in
    let quiet = subst (λ (e : PlayEnd). EndsTold e before c.args.self.now mid) c.in-NoMemory.is told in
    (stands.shown, inl stands.plays, failed_again before mid after (state_of c.args.self.now stands.shown) unasked c.show.ensures.keys (refused_last before mid after c.args.self.now quiet (refused_of Unit c.in-Err.field-0 mid after c.args.self.now quiet.none c.in-Err.ensures.events)))

pub returns-in-Err-show-clause-ended : goal.returns-in-Err-show-clause-ended
returns-in-Err-show-clause-ended g c = λ limit last start before ends unasked told.
    let mid = g.K.Station.seat c.args.station.now in
    let after = g.K.Station.seat c.show-in-Left.new.station in
    let stands = (subst (λ (e : PlayEnd). RepeatsTo g.S.Sectors.sectors g.S.Sectors.faults limit last e start before c.args.self.now mid) c.in-Left.is ends).0 in
    let quiet = subst (λ (e : PlayEnd). EndsTold e before c.args.self.now mid) c.in-Left.is told in
    (stands.shown, inl stands.plays, failed_again before mid after (state_of c.args.self.now stands.shown) unasked c.show-in-Left.ensures.keys (refused_last before mid after c.args.self.now quiet (refused_of Unit c.in-Err-show.field-0 mid after c.args.self.now quiet.none c.in-Err-show.ensures.events)))

pub returns-in-Err-show-2-clause-ended : goal.returns-in-Err-show-2-clause-ended
returns-in-Err-show-2-clause-ended g c = λ limit last start before ends unasked told.
    let mid = g.K.Station.seat c.args.station.now in
    let after = g.K.Station.seat c.show-in-Run.new.station in
    let over = subst (λ (e : PlayEnd). RepeatsTo g.S.Sectors.sectors g.S.Sectors.faults limit last e start before c.args.self.now mid) c.in-Run.is ends in
    let quiet = subst (λ (e : PlayEnd). EndsTold e before c.args.self.now mid) c.in-Run.is told in
    (over.shown, inr (c.in-Run.why, over.ends), failed_again before mid after (state_of c.args.self.now over.shown) unasked c.show-in-Run.ensures.keys (refused_last before mid after c.args.self.now quiet (refused_of Unit c.in-Err-show-2.field-0 mid after c.args.self.now quiet.none c.in-Err-show-2.ensures.events)))
