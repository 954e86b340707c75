use Rattle.std.proofs.Common.{◌+◌, ◌<◌, ◌∙◌, IfSome, Some, length, inl, inr, subst, sym, refl, arith}
use Rattle.cpm_console.specs.Dialog.{Dialog}
use Rattle.cpm_bdos.specs.System.{System}
use Rattle.cpm_run.specs.Looks.{after_step}
use Rattle.cpm_run.specs.declared.ending.Why.TheVariants as why
use Rattle.cpm_run.proofs.Grown.{caught_up, kept_put}
use Rattle.cpm_run.proofs.Looking.{done, done_by, kept_looking}
use Rattle.cpm_run.proofs.Sitting.{arrives, gone, moved_on, over_here, same_arrives, shown_on, sooner}
use Rattle.cpm_run.proofs.playing.state.Playing.go_round.Goals as goal

pub returns-in-Some-clause-so_far : goal.returns-in-Some-clause-so_far
returns-in-Some-clause-so_far g c = λ start before begins.
    let first = begins.0 in
    over_here _ _ c.args.limit c.in-Some.why start before _ c.args.self.now _ first (inr (inr (c.in-Some.ensures.goes start first.stands.shown first.stands.plays))) c.compute.ensures.ahead c.compute.ensures.arrivals c.compute.ensures.ended
    (sooner c.args.self.now.turns _ c.args.self.now.arrivals.items _ c.compute.ensures.least refl begins.1)

pub returns-then-is_finished-clause-so_far : goal.returns-then-is_finished-clause-so_far
returns-then-is_finished-clause-so_far g c = λ start before begins.
    let first = begins.0 in
    let plays = gone _ _ c.compute.result start _ c.in_default.not-Some (c.compute.ensures.goes start first.stands.shown first.stands.plays) in
    over_here _ _ c.args.limit _ start before _ c.args.self.now _ first (inl (plays, sym c.is_finished.ensures ∙ c.if-is_finished.true, refl)) c.compute.ensures.ahead c.compute.ensures.arrivals c.compute.ensures.ended
    (sooner c.args.self.now.turns _ c.args.self.now.arrivals.items _ c.compute.ensures.least refl begins.1)

pub returns-then-self-limit-clause-so_far : goal.returns-then-self-limit-clause-so_far
returns-then-self-limit-clause-so_far g c = λ start before begins.
    let first = begins.0 in
    let plays = gone _ _ c.compute.result start _ c.in_default.not-Some (c.compute.ensures.goes start first.stands.shown first.stands.plays) in
    over_here _ _ c.args.limit _ start before _ c.args.self.now _ first (inr (inl (plays, c.if-self-limit.true, sym c.is_finished.ensures ∙ c.if-is_finished.false, refl))) c.compute.ensures.ahead c.compute.ensures.arrivals c.compute.ensures.ended
    (sooner c.args.self.now.turns _ c.args.self.now.arrivals.items _ c.compute.ensures.least refl begins.1)

pub returns-in-Err-clause-so_far : goal.returns-in-Err-clause-so_far
returns-in-Err-clause-so_far g c = λ start before begins.
    let first = begins.0 in
    let computed = moved_on _ _ start before _ c.args.self.now _ first (gone _ _ c.compute.result start _ c.in_default.not-Some (c.compute.ensures.goes start first.stands.shown first.stands.plays)) c.compute.ensures.ahead c.compute.ensures.arrivals c.compute.ensures.ended c.compute.ensures.least in
    c.in-Err.ensures.so_far c.args.limit start before computed (record { going = sym c.is_finished.ensures ∙ c.if-is_finished.false; below = let most = c.compute.ensures.bound in let least = c.min.ensures in let room = c.requires.bound in let other = c.if-self-limit.false in omega (arith, most, least, room, other) })

pub returns-in-Some-take_turn-clause-so_far : goal.returns-in-Some-take_turn-clause-so_far
returns-in-Some-take_turn-clause-so_far g c = λ start before begins.
    let first = begins.0 in
    let computed = moved_on _ _ start before _ c.args.self.now _ first (gone _ _ c.compute.result start _ c.in_default.not-Some (c.compute.ensures.goes start first.stands.shown first.stands.plays)) c.compute.ensures.ahead c.compute.ensures.arrivals c.compute.ensures.ended c.compute.ensures.least in
    let attended = c.in_default-attend.ensures.so_far c.args.limit start before computed (record { going = sym c.is_finished.ensures ∙ c.if-is_finished.false; below = let most = c.compute.ensures.bound in let least = c.min.ensures in let room = c.requires.bound in let other = c.if-self-limit.false in omega (arith, most, least, room, other) }) in
    over_here _ _ c.args.limit c.in-Some-take_turn.why start before _ c.attend.new.self _ attended (inr (inr (c.in-Some-take_turn.ensures.goes start attended.stands.shown attended.stands.plays))) c.take_turn.ensures.ahead c.take_turn.ensures.arrivals c.take_turn.ensures.ended
    (sooner (c.attend.new.self.turns + 1) _ c.attend.new.self.arrivals.items _ (let t = c.take_turn.ensures.turns in omega (arith, t)) refl attended.time)

pub returns-in-Ok-clause-so_far : goal.returns-in-Ok-clause-so_far
returns-in-Ok-clause-so_far g c = λ start before begins.
    let first = begins.0 in
    let computed = moved_on _ _ start before _ c.args.self.now _ first (gone _ _ c.compute.result start _ c.in_default.not-Some (c.compute.ensures.goes start first.stands.shown first.stands.plays)) c.compute.ensures.ahead c.compute.ensures.arrivals c.compute.ensures.ended c.compute.ensures.least in
    let attended = c.in_default-attend.ensures.so_far c.args.limit start before computed (record { going = sym c.is_finished.ensures ∙ c.if-is_finished.false; below = let most = c.compute.ensures.bound in let least = c.min.ensures in let room = c.requires.bound in let other = c.if-self-limit.false in omega (arith, most, least, room, other) }) in
    let taken = moved_on _ _ start before _ c.attend.new.self _ attended (gone _ _ c.take_turn.result start _ c.in_default-take_turn.not-Some (c.take_turn.ensures.goes start attended.stands.shown attended.stands.plays)) c.take_turn.ensures.ahead c.take_turn.ensures.arrivals c.take_turn.ensures.ended (let t = c.take_turn.ensures.turns in omega (arith, t)) in
    let before_now = sooner (c.attend.new.self.turns + 1) c.take_turn.new.self.turns c.attend.new.self.arrivals.items c.take_turn.new.self.arrivals.items (let t = c.take_turn.ensures.turns in omega (arith, t)) c.take_turn.ensures.arrivals attended.time in (
      shown_on _ _ start before (g.K.Station.seat c.attend.new.station) _ c.take_turn.new.self _ taken (c.in-Ok.ensures.so_far start before taken.stands) c.in-Ok.ensures.keys c.show_much.ensures.arrivals c.show_much.ensures.ended c.show_much.ensures.still.turns,
      sooner c.take_turn.new.self.turns _ c.take_turn.new.self.arrivals.items _ (let t = c.show_much.ensures.still.turns in omega (arith, t)) c.show_much.ensures.arrivals before_now,
    )

pub returns-in-Err-show_much-clause-so_far : goal.returns-in-Err-show_much-clause-so_far
returns-in-Err-show_much-clause-so_far g c = λ start before begins.
    let first = begins.0 in
    let computed = moved_on _ _ start before _ c.args.self.now _ first (gone _ _ c.compute.result start _ c.in_default.not-Some (c.compute.ensures.goes start first.stands.shown first.stands.plays)) c.compute.ensures.ahead c.compute.ensures.arrivals c.compute.ensures.ended c.compute.ensures.least in
    let attended = c.in_default-attend.ensures.so_far c.args.limit start before computed (record { going = sym c.is_finished.ensures ∙ c.if-is_finished.false; below = let most = c.compute.ensures.bound in let least = c.min.ensures in let room = c.requires.bound in let other = c.if-self-limit.false in omega (arith, most, least, room, other) }) in
    let taken = moved_on _ _ start before _ c.attend.new.self _ attended (gone _ _ c.take_turn.result start _ c.in_default-take_turn.not-Some (c.take_turn.ensures.goes start attended.stands.shown attended.stands.plays)) c.take_turn.ensures.ahead c.take_turn.ensures.arrivals c.take_turn.ensures.ended (let t = c.take_turn.ensures.turns in omega (arith, t)) in
    (c.in-Err-show_much.ensures.so_far start before taken.stands, same_arrives before c.take_turn.new.self.arrivals.items _ c.show_much.ensures.arrivals (arrives before (g.K.Station.seat c.attend.new.station) _ _ taken.heard))

pub returns-in-Some-clause-looks : goal.returns-in-Some-clause-looks
returns-in-Some-clause-looks g c = λ start before rests.
    done_by _ _ c.in-Some.why start before _ c.args.self.now c.compute.new.self rests.so_far rests.watched (c.in-Some.ensures.looks start rests.watched.shown rests.so_far rests.watched.attends rests.here (let most = c.min.ensures in let lately = rests.lately in let last = rests.watched.last in omega (arith, most, lately, last)) rests.held) c.compute.ensures.ahead c.compute.ensures.ended (inl (c.compute.ensures.ahead ∙ rests.none))

pub returns-then-is_finished-clause-looks : goal.returns-then-is_finished-clause-looks
returns-then-is_finished-clause-looks g c = λ start before rests.
    let made = c.compute.ensures.looks start rests.watched.shown rests.so_far rests.watched.attends rests.here (let most = c.min.ensures in let lately = rests.lately in let last = rests.watched.last in omega (arith, most, lately, last)) rests.held in
    let computed = kept_looking _ _ c.compute.result start before _ c.args.self.now c.compute.new.self rests.so_far rests.watched c.in_default.not-Some made c.compute.ensures.ahead c.compute.ensures.looked c.compute.ensures.least c.compute.ensures.allowance c.compute.ensures.ended in
    done _ _ why.Finished start before _ c.compute.new.self (after_step rests.so_far) (inl refl) computed (c.compute.ensures.ahead ∙ rests.none)

pub returns-then-self-limit-clause-looks : goal.returns-then-self-limit-clause-looks
returns-then-self-limit-clause-looks g c = λ start before rests.
    let made = c.compute.ensures.looks start rests.watched.shown rests.so_far rests.watched.attends rests.here (let most = c.min.ensures in let lately = rests.lately in let last = rests.watched.last in omega (arith, most, lately, last)) rests.held in
    let computed = kept_looking _ _ c.compute.result start before _ c.args.self.now c.compute.new.self rests.so_far rests.watched c.in_default.not-Some made c.compute.ensures.ahead c.compute.ensures.looked c.compute.ensures.least c.compute.ensures.allowance c.compute.ensures.ended in
    done _ _ why.TurnLimit start before _ c.compute.new.self (after_step rests.so_far) (inr refl) computed (c.compute.ensures.ahead ∙ rests.none)

pub returns-in-Err-clause-looks : goal.returns-in-Err-clause-looks
returns-in-Err-clause-looks g c = λ start before rests.
    let made = c.compute.ensures.looks start rests.watched.shown rests.so_far rests.watched.attends rests.here (let most = c.min.ensures in let lately = rests.lately in let last = rests.watched.last in omega (arith, most, lately, last)) rests.held in
    let computed = kept_looking _ _ c.compute.result start before _ c.args.self.now c.compute.new.self rests.so_far rests.watched c.in_default.not-Some made c.compute.ensures.ahead c.compute.ensures.looked c.compute.ensures.least c.compute.ensures.allowance c.compute.ensures.ended in
    let held = subst (λ (b : System _ Dialog). IfSome b.terminal.console.output (λ bytes. length bytes < 4096)) (sym c.compute.ensures.bdos) rests.held in
    c.in-Err.ensures.looks start before (after_step rests.so_far) computed refl held (c.compute.ensures.ahead ∙ rests.none)

pub returns-in-Some-take_turn-clause-looks : goal.returns-in-Some-take_turn-clause-looks
returns-in-Some-take_turn-clause-looks g c = λ start before rests.
    let made = c.compute.ensures.looks start rests.watched.shown rests.so_far rests.watched.attends rests.here (let most = c.min.ensures in let lately = rests.lately in let last = rests.watched.last in omega (arith, most, lately, last)) rests.held in
    let computed = kept_looking _ _ c.compute.result start before _ c.args.self.now c.compute.new.self rests.so_far rests.watched c.in_default.not-Some made c.compute.ensures.ahead c.compute.ensures.looked c.compute.ensures.least c.compute.ensures.allowance c.compute.ensures.ended in
    let held = subst (λ (b : System _ Dialog). IfSome b.terminal.console.output (λ bytes. length bytes < 4096)) (sym c.compute.ensures.bdos) rests.held in
    let fit = c.in_default-attend.ensures.looks start before (after_step rests.so_far) computed refl held (c.compute.ensures.ahead ∙ rests.none) in
    done_by _ _ c.in-Some-take_turn.why start before _ c.attend.new.self c.take_turn.new.self fit.so_far fit.watched (c.in-Some-take_turn.ensures.looks start fit.watched.shown fit.so_far fit.watched.attends fit.may) c.take_turn.ensures.ahead c.take_turn.ensures.ended
    (caught_up _ _ (Some c.in-Some-take_turn.why) c.attend.new.self c.take_turn.new.self fit.ahead c.take_turn.ensures.ahead c.in-Some-take_turn.ensures.turn)

pub returns-in-Ok-clause-looks : goal.returns-in-Ok-clause-looks
returns-in-Ok-clause-looks g c = λ start before rests.
    let made = c.compute.ensures.looks start rests.watched.shown rests.so_far rests.watched.attends rests.here (let most = c.min.ensures in let lately = rests.lately in let last = rests.watched.last in omega (arith, most, lately, last)) rests.held in
    let computed = kept_looking _ _ c.compute.result start before _ c.args.self.now c.compute.new.self rests.so_far rests.watched c.in_default.not-Some made c.compute.ensures.ahead c.compute.ensures.looked c.compute.ensures.least c.compute.ensures.allowance c.compute.ensures.ended in
    let held = subst (λ (b : System _ Dialog). IfSome b.terminal.console.output (λ bytes. length bytes < 4096)) (sym c.compute.ensures.bdos) rests.held in
    let fit = c.in_default-attend.ensures.looks start before (after_step rests.so_far) computed refl held (c.compute.ensures.ahead ∙ rests.none) in
    let taken = kept_looking _ _ c.take_turn.result start before _ c.attend.new.self c.take_turn.new.self fit.so_far fit.watched c.in_default-take_turn.not-Some (c.take_turn.ensures.looks start fit.watched.shown fit.so_far fit.watched.attends fit.may) c.take_turn.ensures.ahead c.take_turn.ensures.looked (let t = c.take_turn.ensures.turns in omega (arith, t)) c.take_turn.ensures.allowance c.take_turn.ensures.ended in
    let shown = c.in-Ok.ensures.looks start before (after_step fit.so_far) taken
    (kept_put c.take_turn.result c.take_turn.new.self c.in_default-take_turn.not-Some (caught_up _ _ c.take_turn.result c.attend.new.self c.take_turn.new.self fit.ahead c.take_turn.ensures.ahead c.take_turn.ensures.turn)) in record {
      so_far = shown.0;
      watched = shown.1;
      here = shown.2;
      lately = let recent = fit.lately in let one = c.take_turn.ensures.turns in let same = c.take_turn.ensures.looked in let still = c.show_much.ensures.still.turns in let also = c.show_much.ensures.still.looked in omega (arith, recent, one, same, still, also);
      held = c.in-Ok.ensures.held;
      none = c.in-Ok.ensures.ahead;
    }

pub returns-in-Err-show_much-clause-looks : goal.returns-in-Err-show_much-clause-looks
returns-in-Err-show_much-clause-looks g c = λ start before rests.
    let made = c.compute.ensures.looks start rests.watched.shown rests.so_far rests.watched.attends rests.here (let most = c.min.ensures in let lately = rests.lately in let last = rests.watched.last in omega (arith, most, lately, last)) rests.held in
    let computed = kept_looking _ _ c.compute.result start before _ c.args.self.now c.compute.new.self rests.so_far rests.watched c.in_default.not-Some made c.compute.ensures.ahead c.compute.ensures.looked c.compute.ensures.least c.compute.ensures.allowance c.compute.ensures.ended in
    let held = subst (λ (b : System _ Dialog). IfSome b.terminal.console.output (λ bytes. length bytes < 4096)) (sym c.compute.ensures.bdos) rests.held in
    let fit = c.in_default-attend.ensures.looks start before (after_step rests.so_far) computed refl held (c.compute.ensures.ahead ∙ rests.none) in
    let taken = kept_looking _ _ c.take_turn.result start before _ c.attend.new.self c.take_turn.new.self fit.so_far fit.watched c.in_default-take_turn.not-Some (c.take_turn.ensures.looks start fit.watched.shown fit.so_far fit.watched.attends fit.may) c.take_turn.ensures.ahead c.take_turn.ensures.looked (let t = c.take_turn.ensures.turns in omega (arith, t)) c.take_turn.ensures.allowance c.take_turn.ensures.ended in
    c.in-Err-show_much.ensures.looks start before (after_step fit.so_far) taken
    (kept_put c.take_turn.result c.take_turn.new.self c.in_default-take_turn.not-Some (caught_up _ _ c.take_turn.result c.attend.new.self c.take_turn.new.self fit.ahead c.take_turn.ensures.ahead c.take_turn.ensures.turn))
