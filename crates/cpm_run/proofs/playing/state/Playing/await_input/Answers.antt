use Rattle.std.proofs.Common.{arith, inl}
use Rattle.std.proofs.lemmas.Result.{err_from_is_err_and}
use Rattle.cpm_run.proofs.Looking.{attended_so, failed_as}
use Rattle.cpm_run.proofs.Sitting.{after_listening, arrives, begun, ended_so, no_step, same_arrives, shown_on, still_there}
use Rattle.cpm_run.proofs.playing.state.Playing.await_input.Goals as goal

pub returns-in_err-show_all-clause-so_far : goal.returns-in_err-show_all-clause-so_far
returns-in_err-show_all-clause-so_far g c = λ limit start before first next.
    let p = err_from_is_err_and c.from_residual.result c.from_residual.ensures.1 in
    let failed = c.in_err-show_all.ensures in
    after_listening _ _ limit _ start before _ _ (ended_so _ _ limit _ p.0 c.from_residual.result start before _ _ p.1 p.2
    (failed.so_far start before first.stands, same_arrives before c.args.self.now.arrivals.items _ failed.arrivals (arrives before (g.K.Station.seat c.args.station.now) _ _ first.heard)))

pub returns-else-takes_line-clause-so_far : goal.returns-else-takes_line-clause-so_far
returns-else-takes_line-clause-so_far g c = λ limit start before first next.
    let shown = c.in_ok-show_all.ensures in
    after_listening _ _ limit _ start before _ _ (c.await_byte.ensures.waits limit start before (begun _ _ limit start before _ c.args.self.now _ (shown_on _ _ start before (g.K.Station.seat c.args.station.now) _ c.args.self.now _ first (shown.so_far start before first.stands) shown.keys shown.arrivals shown.ended shown.still.turns) shown.still shown.all next) shown.ahead)

pub returns-then-takes_line-clause-so_far : goal.returns-then-takes_line-clause-so_far
returns-then-takes_line-clause-so_far g c = λ limit start before first next.
    let shown = c.in_ok-show_all.ensures in
    after_listening _ _ limit _ start before _ _ (c.await_line.ensures.waits limit start before (begun _ _ limit start before _ c.args.self.now _ (shown_on _ _ start before (g.K.Station.seat c.args.station.now) _ c.args.self.now _ first (shown.so_far start before first.stands) shown.keys shown.arrivals shown.ended shown.still.turns) shown.still shown.all next))

pub returns-in_err-show_all-clause-still : goal.returns-in_err-show_all-clause-still
returns-in_err-show_all-clause-still g c = still_there _ _ c.in_err-show_all.ensures.still

pub returns-then-takes_line-clause-still : goal.returns-then-takes_line-clause-still
returns-then-takes_line-clause-still g c = no_step _ _ _ (still_there _ _ c.in_ok-show_all.ensures.still) c.await_line.ensures.still

pub returns-else-takes_line-clause-still : goal.returns-else-takes_line-clause-still
returns-else-takes_line-clause-still g c = no_step _ _ _ (still_there _ _ c.in_ok-show_all.ensures.still) c.await_byte.ensures.still

pub returns-in_err-show_all-clause-looks : goal.returns-in_err-show_all-clause-looks
returns-in_err-show_all-clause-looks g c = λ start before a watched empty lately.
    let p = err_from_is_err_and c.from_residual.result c.from_residual.ensures.1 in
    let seat = g.K.Station.seat c.show_all.new.station in
    attended_so _ _ p.0 c.from_residual.result start before seat c.show_all.new.self p.1 (failed_as _ _ p.0 start before seat c.show_all.new.self p.2 (c.in_err-show_all.ensures.looks start before a watched (inl empty)))

pub returns-then-takes_line-clause-looks : goal.returns-then-takes_line-clause-looks
returns-then-takes_line-clause-looks g c = λ start before a watched empty lately.
    let shown = c.in_ok-show_all.ensures in
    let now = shown.looks start before a watched (inl empty) in
    c.await_line.ensures.looks start before now.0 now.1 shown.all shown.ahead (let same = shown.still.turns in let also = shown.still.looked in omega (arith, lately, same, also))

pub returns-else-takes_line-clause-looks : goal.returns-else-takes_line-clause-looks
returns-else-takes_line-clause-looks g c = λ start before a watched empty lately.
    let shown = c.in_ok-show_all.ensures in
    let now = shown.looks start before a watched (inl empty) in
    c.await_byte.ensures.looks start before now.0 now.1 shown.all shown.ahead (let same = shown.still.turns in let also = shown.still.looked in omega (arith, lately, same, also))
