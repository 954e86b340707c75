use Rattle.std.proofs.Common.{◌++◌, ◌∙◌, [], List, ap, append-nil, arith, refl, sym, ℕ}
use Rattle.std.proofs.lemmas.Result.{err_from_is_err_and}
use Rattle.cpm_run.specs.Private.Playing.{state_of}
use Rattle.cpm_run.proofs.Asked.{echo_due, longer, none_more, some_more}
use Rattle.cpm_run.proofs.Looking.{echo_refused, echo_short, short_as, showed_echo, unasked_showed, watched_so}
use Rattle.cpm_run.proofs.Sitting.{ended_so, heard_kept, short_of, shown_all}
use Rattle.cpm_run.proofs.playing.state.Playing.echo.Goals as goal

pub returns-in_err-echo-clause-waits : goal.returns-in_err-echo-clause-waits
returns-in_err-echo-clause-waits g c = λ limit start before waits.
    let seat = g.K.Station.seat c.args.station.now in
    let p = err_from_is_err_and c.from_residual.result c.from_residual.ensures.1 in
    ended_so _ _ limit _ p.0 c.from_residual.result start before seat _ p.1 p.2 (short_of _ _ limit start before seat seat c.args.self.now c.args.self.now waits refl refl refl refl (λ shown plays. plays) refl refl)

pub returns-in_err-extend_from_slice-clause-waits : goal.returns-in_err-extend_from_slice-clause-waits
returns-in_err-extend_from_slice-clause-waits g c = λ limit start before waits.
    let seat = g.K.Station.seat c.args.station.now in
    let p = err_from_is_err_and c.from_residual-in_err-extend_from_slice.result c.from_residual-in_err-extend_from_slice.ensures.1 in
    ended_so _ _ limit _ p.0 c.from_residual-in_err-extend_from_slice.result start before seat _ p.1 p.2 (short_of _ _ limit start before seat seat c.args.self.now _ waits refl refl c.in_err-extend_from_slice.ensures.items refl (λ shown plays. plays) refl refl)

pub returns-in-Ok-clause-waits : goal.returns-in-Ok-clause-waits
returns-in-Ok-clause-waits g c = λ limit start before waits.
    let so_far = waits.so_far in
    let mid = g.K.Station.seat c.args.station.now in
    let after = g.K.Station.seat c.show.new.self in record {
      so_far = record {
        stands = record {
          shown = so_far.stands.shown;
          plays = so_far.stands.plays;
          seen = shown_all before mid after so_far.stands.shown c.args.self.now.ahead.items c.in-Some.more.now _ so_far.stands.seen c.in-Ok.ensures.seat.screen c.in_ok-extend_from_slice.ensures.items;
        };
        heard = heard_kept before mid after _ _ _ _ (record { coming = c.in-Ok.ensures.seat.coming; leaves = c.in-Ok.ensures.seat.leaves; looks = unasked_showed c.in-Some.more.now mid.events after.events c.in-Ok.ensures.seat.events }) refl refl so_far.heard;
        time = so_far.time;
      };
      next = record { going = waits.next.going; below = waits.next.below };
      all = waits.all;
    }

pub returns-in_err-echo-clause-looks : goal.returns-in_err-echo-clause-looks
returns-in_err-echo-clause-looks g c = λ start before a watched all begins.
    let seat = g.K.Station.seat c.args.station.now in
    let p = err_from_is_err_and c.from_residual.result c.from_residual.ensures.1 in
    watched_so _ _ p.0 c.from_residual.result start before seat c.args.self.now a p.1 (short_as _ _ p.0 start before seat c.args.self.now p.2 (echo_short _ _ start before seat c.args.self.now a c.requires.line c.in_err-echo.ensures.due watched))

pub returns-in_err-extend_from_slice-clause-looks : goal.returns-in_err-extend_from_slice-clause-looks
returns-in_err-extend_from_slice-clause-looks g c = λ start before a watched all begins.
    let seat = g.K.Station.seat c.args.station.now in
    let p = err_from_is_err_and c.from_residual-in_err-extend_from_slice.result c.from_residual-in_err-extend_from_slice.ensures.1 in
    watched_so _ _ p.0 c.from_residual-in_err-extend_from_slice.result start before seat _ a p.1 (short_as _ _ p.0 start before seat _ p.2 (echo_short _ _ start before seat c.args.self.now a c.requires.line
    (echo_due (state_of c.args.self.now []).run c.requires.line (longer _ c.args.self.now.ahead.items c.in-Some.more.now (sym c.in_ok-echo.ensures.bytes ∙ sym c.deref-2.ensures.value ∙ c.in-Some.ensures ∙ ap (λ (l : List ℕ). l ++ c.in-Some.more.now) c.deref.ensures.value) (some_more c.in-Some.more.now c.is_empty.result c.is_empty.ensures c.if-is_empty.false))) watched))

pub returns-in_default-clause-looks : goal.returns-in_default-clause-looks
returns-in_default-clause-looks g c = λ start before a watched all begins.
    absurd (c.in_default.ensures begins.0 (c.deref-2.ensures.value ∙ c.in_ok-echo.ensures.bytes ∙ begins.1 ∙ ap (λ (l : List ℕ). l ++ begins.0) (sym c.deref.ensures.value)))

pub returns-in-Ok-clause-looks : goal.returns-in-Ok-clause-looks
returns-in-Ok-clause-looks g c = λ start before a watched all begins.
    showed_echo _ _ start before (g.K.Station.seat c.args.station.now) (g.K.Station.seat c.show.new.self) c.args.self.now _ a c.in-Some.more.now watched all (sym c.in_ok-echo.ensures.bytes ∙ sym c.deref-2.ensures.value ∙ c.in-Some.ensures ∙ ap (λ (l : List ℕ). l ++ c.in-Some.more.now) c.deref.ensures.value) refl refl refl refl refl refl c.saturating_sub-self.ensures refl c.in_ok-extend_from_slice.ensures.items c.in-Ok.ensures.seat.events

pub returns-clause-looks : goal.returns-clause-looks
returns-clause-looks g c = λ start before a watched all begins.
    echo_refused _ _ start before (g.K.Station.seat c.args.station.now) (g.K.Station.seat c.show.new.self) c.args.self.now a c.in-Some.more.now (watched.shown, watched.attends)
    (sym c.in_ok-echo.ensures.bytes ∙ sym c.deref-2.ensures.value ∙ c.in-Some.ensures ∙ ap (λ (l : List ℕ). l ++ c.in-Some.more.now) (c.deref.ensures.value ∙ sym watched.ahead)) watched.events c.in-Err.ensures.seat.2

pub returns-then-is_empty-clause-looks : goal.returns-then-is_empty-clause-looks
returns-then-is_empty-clause-looks g c = λ start before a watched all begins. (a, watched, refl, λ n. omega arith)

pub returns-then-is_empty-clause-echo : goal.returns-then-is_empty-clause-echo
returns-then-is_empty-clause-echo g c =
    sym (append-nil c.args.self.now.ahead.items) ∙ ap (λ (l : List ℕ). c.args.self.now.ahead.items ++ l) (sym (none_more c.in-Some.more.now c.is_empty.result c.is_empty.ensures c.if-is_empty.true)) ∙ sym (sym c.in_ok-echo.ensures.bytes ∙ sym c.deref-2.ensures.value ∙ c.in-Some.ensures ∙ ap (λ (l : List ℕ). l ++ c.in-Some.more.now) c.deref.ensures.value)
