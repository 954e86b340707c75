use Rattle.std.proofs.Common.{◌≤◌, ◌+◌, ◌++◌, ◌∙◌, [], ap, arith, inr, refl, subst, sym, List, ℕ}
use Rattle.std.proofs.lemmas.Result.{err_from_is_err_and}
use Rattle.cpm_run.specs.Looks.{TakesLine, next_echo, waits_after}
use Rattle.cpm_run.specs.Private.Playing.{HasStopped, state_of}
use Rattle.cpm_run.specs.declared.arriving.PlayEnd.{PlayEnd}
use Rattle.cpm_run.proofs.Asked.{line_lacked, line_waits, not_whole}
use Rattle.cpm_run.proofs.Looking.{attended, attended_so, in_vain, line_look}
use Rattle.cpm_run.proofs.Sitting.{broken, ended_so, no_step, still_there}
use Rattle.cpm_run.proofs.playing.state.Playing.await_line.Goals as goal

pub returns-then-branch-clause-waits : goal.returns-then-branch-clause-waits
returns-then-branch-clause-waits g c = λ limit start before first. c.in_ok-echo.ensures.waits limit start before (c.loop-look.invariant.1 limit start before first)

pub returns-in-Err-clause-waits : goal.returns-in-Err-clause-waits
returns-in-Err-clause-waits g c = λ limit start before first. c.in-Err.ensures.waits limit start before (c.in_ok-echo.ensures.waits limit start before (c.loop-look.invariant.1 limit start before first)) (inr c.in_ok-echo.ensures.echo)

pub loop-look-init : goal.loop-look-init
loop-look-init g c = (
  record { cpu = refl; turns = refl; looked = λ past. (omega arith, past) },
  λ limit start before first. first,
  λ start before a watched all empty lately. (a, watched, omega arith, all, lately, (next_echo (state_of c.args.self.now []).run, ap (λ (l : List ℕ). l ++ next_echo (state_of c.args.self.now []).run) (sym empty))),
)

pub loop-look-preserved : goal.loop-look-preserved
loop-look-preserved g c = (
  no_step _ _ _ (no_step _ _ _ c.loop-look.invariant.0 (still_there _ _ c.in_ok-echo.ensures.still)) c.listen.ensures.still,
  λ limit start before first. c.in_default.ensures.waits limit start before (c.in_ok-echo.ensures.waits limit start before (c.loop-look.invariant.1 limit start before first)) (inr c.in_ok-echo.ensures.echo),
  λ start before a watched all empty lately.
      let was = c.loop-look.invariant.2 start before a watched all empty lately in
      let now = c.in_ok-echo.ensures.looks start before was.0 was.1 was.3 was.5 in
      let line = subst TakesLine (sym (c.in_ok-echo.ensures.still.cpu ∙ c.loop-look.invariant.0.cpu)) c.requires.line in
      let then = c.in_default.ensures.looks start before now.0 now.1 (line_look _ _ start before (g.K.Station.seat c.echo.new.station) c.echo.new.self now.0 now.1 line (c.in_ok-echo.ensures.output ∙ was.3) c.in_ok-echo.ensures.echo (not_whole _ c.in_ok-echo.field-0 c.in_ok-echo.ensures.part c.if-branch.false) c.if-self.false) in
      let turns = c.listen.ensures.still.turns ∙ c.in_ok-echo.ensures.still.turns ∙ c.loop-look.invariant.0.turns in
      let more = subst (λ (n : ℕ). waits_after n now.0.events + 1 ≤ waits_after n then.0.events) turns then.3 in (
        then.0,
        then.1,
        let more_shown = now.3 c.args.self.now.turns in let least = was.2 in omega (arith, more, more_shown, least),
        c.listen.ensures.output ∙ c.in_ok-echo.ensures.output ∙ was.3,
        let here = c.in_default.ensures.looked in omega (arith, here),
        (
            let grown = c.in_default.ensures.grows line in (grown.0, grown.1 ∙ ap (λ (l : List ℕ). l ++ grown.0) (sym (c.listen.ensures.ahead ∙ c.in_ok-echo.ensures.echo)))
            ),
      ),
)

pub returns-clause-waits : goal.returns-clause-waits
returns-clause-waits g c = λ limit start before first. broken _ _ limit start before _ _ (c.loop-look.invariant.1 limit start before first)

pub returns-then-self-clause-waits : goal.returns-then-self-clause-waits
returns-then-self-clause-waits g c = λ limit start before first. c.in_ok-echo.ensures.waits limit start before (c.loop-look.invariant.1 limit start before first)

pub returns-then-branch-clause-looks : goal.returns-then-branch-clause-looks
returns-then-branch-clause-looks g c = λ start before a watched all empty lately.
    let was = c.loop-look.invariant.2 start before a watched all empty lately in
    let now = c.in_ok-echo.ensures.looks start before was.0 was.1 was.3 was.5 in
    let line = subst TakesLine (sym (c.in_ok-echo.ensures.still.cpu ∙ c.loop-look.invariant.0.cpu)) c.requires.line in
    attended _ _ start before (g.K.Station.seat c.echo.new.station) c.echo.new.self now.0 now.1 (line_waits c.echo.new.self.cpu line) (λ lacks. absurd (c.in_ok-echo.ensures.whole c.if-branch.true (line_lacked (state_of c.echo.new.self []).run line lacks))) (let same = c.in_ok-echo.ensures.still.turns in let also = c.in_ok-echo.ensures.still.looked in let late = was.4 in omega (arith, same, also, late)) (c.in_ok-echo.ensures.output ∙ was.3) (inr (line, c.in_ok-echo.ensures.output ∙ was.3, c.in_ok-echo.ensures.echo))

pub returns-then-self-clause-looks : goal.returns-then-self-clause-looks
returns-then-self-clause-looks g c = λ start before a watched all empty lately.
    let was = c.loop-look.invariant.2 start before a watched all empty lately in
    let now = c.in_ok-echo.ensures.looks start before was.0 was.1 was.3 was.5 in
    let line = subst TakesLine (sym (c.in_ok-echo.ensures.still.cpu ∙ c.loop-look.invariant.0.cpu)) c.requires.line in
    attended _ _ start before (g.K.Station.seat c.echo.new.station) c.echo.new.self now.0 now.1 (line_waits c.echo.new.self.cpu line) (λ lacks. c.if-self.true) (let same = c.in_ok-echo.ensures.still.turns in let also = c.in_ok-echo.ensures.still.looked in let late = was.4 in omega (arith, same, also, late)) (c.in_ok-echo.ensures.output ∙ was.3) (inr (line, c.in_ok-echo.ensures.output ∙ was.3, c.in_ok-echo.ensures.echo))

pub returns-in-Err-clause-looks : goal.returns-in-Err-clause-looks
returns-in-Err-clause-looks g c = λ start before a watched all empty lately.
    let was = c.loop-look.invariant.2 start before a watched all empty lately in
    let now = c.in_ok-echo.ensures.looks start before was.0 was.1 was.3 was.5 in
    let line = subst TakesLine (sym (c.in_ok-echo.ensures.still.cpu ∙ c.loop-look.invariant.0.cpu)) c.requires.line in
    c.in-Err.ensures.looks start before now.0 now.1 (line_look _ _ start before (g.K.Station.seat c.echo.new.station) c.echo.new.self now.0 now.1 line (c.in_ok-echo.ensures.output ∙ was.3) c.in_ok-echo.ensures.echo (not_whole _ c.in_ok-echo.field-0 c.in_ok-echo.ensures.part c.if-branch.false) c.if-self.false)

pub returns-in_err-echo-clause-looks : goal.returns-in_err-echo-clause-looks
returns-in_err-echo-clause-looks g c = λ start before a watched all empty lately.
    let was = c.loop-look.invariant.2 start before a watched all empty lately in
    let p = err_from_is_err_and c.from_residual.result c.from_residual.ensures.1 in
    let seat = g.K.Station.seat c.echo.new.station in
    attended_so _ _ p.0 c.from_residual.result start before seat c.echo.new.self p.1 (subst (λ (e : PlayEnd). HasStopped g.S.Sectors.sectors g.S.Sectors.faults e start before c.echo.new.self seat) (sym p.2) (c.in_err-echo.ensures.looks start before was.0 was.1 was.3 was.5))

pub returns-clause-looks : goal.returns-clause-looks
returns-clause-looks g c = λ start before a watched all empty lately.
    let now = c.loop-look.invariant.2 start before a watched all empty lately in
    in_vain _ _ start before (g.K.Station.seat c.loop-look.station) c.loop-look.self now.0 now.1
    (subst (λ (n : ℕ). 4294967295 ≤ waits_after n now.0.events) (sym c.loop-look.invariant.0.turns) (let least = now.2 in let most = c.loop-look-test.false in omega (arith, least, most)))

pub returns-then-branch-clause-still : goal.returns-then-branch-clause-still
returns-then-branch-clause-still g c = no_step _ _ _ c.loop-look.invariant.0 (still_there _ _ c.in_ok-echo.ensures.still)

pub returns-then-self-clause-still : goal.returns-then-self-clause-still
returns-then-self-clause-still g c = no_step _ _ _ c.loop-look.invariant.0 (still_there _ _ c.in_ok-echo.ensures.still)

pub returns-in-Err-clause-still : goal.returns-in-Err-clause-still
returns-in-Err-clause-still g c = no_step _ _ _ (no_step _ _ _ c.loop-look.invariant.0 (still_there _ _ c.in_ok-echo.ensures.still)) c.listen.ensures.still

pub returns-in_err-echo-clause-still : goal.returns-in_err-echo-clause-still
returns-in_err-echo-clause-still g c = no_step _ _ _ c.loop-look.invariant.0 (still_there _ _ c.in_err-echo.ensures.still)

pub returns-in_err-echo-clause-waits : goal.returns-in_err-echo-clause-waits
returns-in_err-echo-clause-waits g c = λ limit start before first.
    let p = err_from_is_err_and c.from_residual.result c.from_residual.ensures.1 in
    ended_so _ _ limit _ p.0 c.from_residual.result start before (g.K.Station.seat c.echo.new.station) c.echo.new.self p.1 p.2 (c.in_err-echo.ensures.waits limit start before (c.loop-look.invariant.1 limit start before first))
