use Rattle.std.proofs.Common.{inl}
use Rattle.std.proofs.lemmas.Result.{err_from_is_err_and}
use Rattle.cpm_run.proofs.Looking.{failed_as, look_after, looked_so, quick_look, still_due}
use Rattle.cpm_run.proofs.Sitting.{after_listening, arrives, begun, ended_so, no_step, same_arrives, shown_on, still_there}
use Rattle.cpm_run.proofs.playing.state.Playing.look.Goals as goal

pub returns-in_err-show_all-clause-so_far : goal.returns-in_err-show_all-clause-so_far
returns-in_err-show_all-clause-so_far g c = λ limit start before first next.
    let p = err_from_is_err_and c.from_residual.result c.from_residual.ensures.1 in
    let failed = c.in_err-show_all.ensures in
    after_listening _ _ limit _ start before _ _ (ended_so _ _ limit _ p.0 c.from_residual.result start before _ _ p.1 p.2
    (failed.so_far start before first.stands, same_arrives before c.args.self.now.arrivals.items _ failed.arrivals (arrives before (g.K.Station.seat c.args.station.now) _ _ first.heard)))

pub returns-clause-so_far : goal.returns-clause-so_far
returns-clause-so_far g c = λ limit start before first next.
    let shown = c.in_ok-show_all.ensures in
    after_listening _ _ limit _ start before _ _ (c.listen.ensures.waits limit start before (begun _ _ limit start before _ c.args.self.now _ (shown_on _ _ start before (g.K.Station.seat c.args.station.now) _ c.args.self.now _ first (shown.so_far start before first.stands) shown.keys shown.arrivals shown.ended shown.still.turns) shown.still shown.all next) (inl shown.ahead))

pub returns-in_err-show_all-clause-still : goal.returns-in_err-show_all-clause-still
returns-in_err-show_all-clause-still g c = still_there _ _ c.in_err-show_all.ensures.still

pub returns-clause-still : goal.returns-clause-still
returns-clause-still g c = no_step _ _ _ (still_there _ _ c.in_ok-show_all.ensures.still) c.listen.ensures.still

pub returns-in_err-show_all-clause-looks : goal.returns-in_err-show_all-clause-looks
returns-in_err-show_all-clause-looks g c = λ start before a watched empty due.
    let p = err_from_is_err_and c.from_residual.result c.from_residual.ensures.1 in
    let seat = g.K.Station.seat c.show_all.new.station in
    looked_so _ _ c.args.patience p.0 c.from_residual.result start before seat c.show_all.new.self a p.1 (failed_as _ _ p.0 start before seat c.show_all.new.self p.2 (c.in_err-show_all.ensures.looks start before a watched (inl empty)))

pub returns-clause-looks : goal.returns-clause-looks
returns-clause-looks g c = λ start before a watched empty due.
    let shown = c.in_ok-show_all.ensures in
    let now = shown.looks start before a watched (inl empty) in
    let seat = g.K.Station.seat c.show_all.new.station in
    let still = still_due _ _ c.args.patience start before (g.K.Station.seat c.args.station.now) seat c.args.self.now c.show_all.new.self a now.0 c.requires.quick watched now.1 shown.still.cpu shown.still.turns shown.still.looked shown.less now.2 due in
    look_after _ _ c.args.patience c.listen.result start before _ _ a now.0 now.3 (c.listen.ensures.looks start before now.0 now.1 (quick_look _ _ c.args.patience start before seat c.show_all.new.self now.0 c.requires.quick now.1 shown.all shown.ahead still))
