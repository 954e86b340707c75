use Rattle.std.proofs.Common.{◌≡◌, ◌∙◌, ◌++◌, ◌∷◌, [], ap, arith, inl, inr, refl, subst, List, ℕ, Ok, false, take, true}
use Rattle.std.proofs.lemmas.List.{length-take-le}
use Rattle.std.proofs.lemmas.Result.{err_from_is_err_and}
use Rattle.cpm_console.specs.Seat.{Hears, SeatEvent, Takes, with_events}
use Rattle.cpm_console.specs.declared.station.Came.{Came}
use Rattle.cpm_console.specs.declared.station.Came.TheVariants as came
use Rattle.cpm_run.specs.Play.{arrived}
use Rattle.cpm_run.proofs.Grown.{more_typed, none_typed}
use Rattle.cpm_run.proofs.Looking.{failed_as, looked, looked_in_vain, looked_last, looked_so, short_as}
use Rattle.cpm_run.proofs.Sitting.{heard_more, more_in_time, still_there, take_min, waits_kept}
use Rattle.cpm_run.proofs.playing.state.Playing.listen.Goals as goal

pub returns-in_ok-take_in-in-Bytes-clause-waits : goal.returns-in_ok-take_in-in-Bytes-clause-waits
returns-in_ok-take_in-in-Bytes-clause-waits g c = λ limit start before waits echo.
    let taken = c.in_ok-take_in-in-Bytes.ensures in
    let old = g.K.Station.seat c.args.station.now in
    let new = g.K.Station.seat c.listen.new.self in
    let listened : Takes (take c.in-Bytes.count c.listen.new.buffer) old new = subst (λ (k : Came). Hears old new (Ok k) c.listen.new.buffer) c.in-Bytes.is c.in_ok-count.ensures.seat.1 in
    let arrivals = c.args.self.now.arrivals.items in
    let bytes = take c.in-Bytes.count c.listen.new.buffer in
    let came = taken.arrivals ∙ ap (λ (l : List ℕ). arrivals ++ arrived c.args.self.now.turns l) (ap (λ (k : ℕ). take k c.listen.new.buffer) c.min.ensures ∙ take_min c.in-Bytes.count c.listen.new.buffer c.listen.auto.buffer) in
    waits_kept _ _ limit start before old new c.args.self.now _ waits taken.still.cpu taken.still.turns taken.ahead taken.output (λ shown. taken.came start shown) listened.screen
    (heard_more before old new c.args.self.now.turns bytes arrivals _ _ _ came listened (λ e. absurd (let no : false ≡ true = e in cc)) waits.so_far.heard) (more_in_time c.args.self.now.turns _ bytes arrivals _ taken.still.turns came waits.so_far.time)

pub returns-in_ok-take_in-in-Bytes-clause-looks : goal.returns-in_ok-take_in-in-Bytes-clause-looks
returns-in_ok-take_in-in-Bytes-clause-looks g c = λ start before a watched may.
    let taken = c.in_ok-take_in-in-Bytes.ensures in
    let old = g.K.Station.seat c.args.station.now in
    let new = g.K.Station.seat c.listen.new.self in
    let noted = subst (λ (k : Came). new.events ≡ with_events (SeatEvent.asked c.args.self.now.turns c.args.patience (Ok k) ∷ []) old.events) c.in-Bytes.is c.in_ok-count.ensures.seat.0 in
    let long = length-take-le c.min.result c.listen.new.buffer (let m = c.min.ensures in let whole = c.listen.auto.buffer in omega (arith, m, whole)) in
    looked _ _ c.args.patience (Ok (came.Bytes c.in-Bytes.count)) _ start before old new c.args.self.now _ a watched may noted (long ∙ c.min.ensures)
    taken.still.cpu taken.memory taken.still.turns taken.typed taken.arrivals taken.ahead refl refl refl

pub returns-in-End-clause-looks : goal.returns-in-End-clause-looks
returns-in-End-clause-looks g c = λ start before a watched may.
    let old = g.K.Station.seat c.args.station.now in
    let new = g.K.Station.seat c.listen.new.self in
    let noted = subst (λ (k : Came). new.events ≡ with_events (SeatEvent.asked c.args.self.now.turns c.args.patience (Ok k) ∷ []) old.events) c.in-End.is c.in_ok-count.ensures.seat.0 in
    looked_in_vain _ _ c.args.patience start before old new c.args.self.now _ a watched may noted refl refl refl refl refl refl refl refl refl

pub returns-in-Leave-clause-looks : goal.returns-in-Leave-clause-looks
returns-in-Leave-clause-looks g c = λ start before a watched may.
    let old = g.K.Station.seat c.args.station.now in
    let new = g.K.Station.seat c.listen.new.self in
    let noted = subst (λ (k : Came). new.events ≡ with_events (SeatEvent.asked c.args.self.now.turns c.args.patience (Ok k) ∷ []) old.events) c.in-Leave.is c.in_ok-count.ensures.seat.0 in
    looked_last _ _ c.args.patience (Ok came.Leave) start before old new c.args.self.now c.args.self.now a watched may noted refl refl refl refl refl

pub returns-in_err-count-clause-looks : goal.returns-in_err-count-clause-looks
returns-in_err-count-clause-looks g c = λ start before a watched may.
    let p = err_from_is_err_and c.from_residual.result c.from_residual.ensures.1 in
    let last = looked_last _ _ c.args.patience _ start before (g.K.Station.seat c.args.station.now) (g.K.Station.seat c.listen.new.self) c.args.self.now c.args.self.now a watched may c.in_err-count.ensures.seat.0 refl refl refl refl refl in
    looked_so _ _ c.args.patience p.0 c.from_residual.result start before (g.K.Station.seat c.listen.new.self) c.args.self.now a p.1
    (failed_as _ _ p.0 start before (g.K.Station.seat c.listen.new.self) c.args.self.now p.2 (last.0, last.1, inl (_, last.2)))

pub returns-in_err-take_in-in-Bytes-clause-looks : goal.returns-in_err-take_in-in-Bytes-clause-looks
returns-in_err-take_in-in-Bytes-clause-looks g c = λ start before a watched may.
    let failed = c.in_err-take_in-in-Bytes.ensures in
    let long = length-take-le c.min.result c.listen.new.buffer (let m = c.min.ensures in let whole = c.listen.auto.buffer in omega (arith, m, whole)) in
    let old = g.K.Station.seat c.args.station.now in
    let new = g.K.Station.seat c.listen.new.self in
    let noted = subst (λ (k : Came). new.events ≡ with_events (SeatEvent.asked c.args.self.now.turns c.args.patience (Ok k) ∷ []) old.events) c.in-Bytes.is c.in_ok-count.ensures.seat.0 in
    let p = err_from_is_err_and c.from_residual-in_err-take_in-in-Bytes.result c.from_residual-in_err-take_in-in-Bytes.ensures.1 in
    let last = looked_last _ _ c.args.patience (Ok (came.Bytes c.in-Bytes.count)) start before old new c.args.self.now c.take_in.new.self a watched may noted failed.still.cpu failed.memory failed.untyped failed.still.turns failed.arrivals in
    looked_so _ _ c.args.patience p.0 c.from_residual-in_err-take_in-in-Bytes.result start before new c.take_in.new.self a p.1
    (short_as _ _ p.0 start before new c.take_in.new.self p.2 (last.0, last.1, inr (c.in-Bytes.count, (let m = c.min.ensures in let some = failed.some in omega (arith, m, some, long)), last.2)))

pub returns-in_ok-take_in-in-Bytes-clause-still : goal.returns-in_ok-take_in-in-Bytes-clause-still
returns-in_ok-take_in-in-Bytes-clause-still g c = let still = c.in_ok-take_in-in-Bytes.ensures.still in record { cpu = still.cpu; turns = still.turns; looked = λ past. (let turns = still.turns in omega (arith, past, turns), omega arith) }

pub returns-in-End-clause-still : goal.returns-in-End-clause-still
returns-in-End-clause-still g c = record { cpu = refl; turns = refl; looked = λ past. (past, omega arith) }

pub returns-in-Leave-clause-still : goal.returns-in-Leave-clause-still
returns-in-Leave-clause-still g c = record { cpu = refl; turns = refl; looked = λ past. (omega arith, past) }

pub returns-in_err-count-clause-still : goal.returns-in_err-count-clause-still
returns-in_err-count-clause-still g c = record { cpu = refl; turns = refl; looked = λ past. (omega arith, past) }

pub returns-in_err-take_in-in-Bytes-clause-still : goal.returns-in_err-take_in-in-Bytes-clause-still
returns-in_err-take_in-in-Bytes-clause-still g c = still_there _ _ c.in_err-take_in-in-Bytes.ensures.still

pub returns-in_ok-take_in-in-Bytes-clause-grows : goal.returns-in_ok-take_in-in-Bytes-clause-grows
returns-in_ok-take_in-in-Bytes-clause-grows g c = λ line.
    let taken = c.in_ok-take_in-in-Bytes.ensures in
    more_typed _ c.args.self.now c.take_in.new.self line taken.still.cpu taken.memory taken.typed

pub returns-in-End-clause-grows : goal.returns-in-End-clause-grows
returns-in-End-clause-grows g c = λ line. none_typed c.args.self.now
