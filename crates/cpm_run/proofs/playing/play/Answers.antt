use Rattle.std.proofs.Common.{◌≤◌, ◌∙◌, [], inl, refl, subst, sym, ap, arith}
use Rattle.cpm_run.specs.declared.arriving.PlayEnd.{PlayEnd}
use Rattle.cpm_run.specs.Looks.{unlooked}
use Rattle.cpm_run.specs.Play.{Attends, HasHappened, PlayEnds, PlaysOn, Sees, first_state}
use Rattle.cpm_run.specs.Play.Attends.{begins}
use Rattle.cpm_run.specs.Play.PlaysOn.{same}
use Rattle.cpm_run.specs.Private.Playing.{state_of}
use Rattle.cpm_run.proofs.Looking.{few_held, happened, no_event}
use Rattle.cpm_run.proofs.Sitting.{at_first, none_came_yet, same_arrives, sooner}
use Rattle.cpm_run.proofs.playing.play.Goals as goal

pub returns : goal.returns
returns g c =
    let start = first_state c.in-Ok.state.0 c.in-Ok.state.1 c.args.disk in
    let before = g.K.Station.seat c.args.station.now in
    let first = at_first g.S.Sectors.sectors g.S.Sectors.faults start before c.new-playing.result (subst (PlaysOn g.S.Sectors.sectors g.S.Sectors.faults start) (sym c.new-playing.ensures.state) (same start)) c.new-playing.ensures.ahead in
    let others = c.close-end.ensures.others in
    let played = c.into_played.ensures in
    let made = c.new-playing.ensures in
    let stopped = c.play-end.ensures.looks start before (record {
      so_far = unlooked;
      watched = record {
        shown = [];
        attends = subst (λ s. Attends g.S.Sectors.sectors g.S.Sectors.faults start s unlooked) (sym made.state) begins;
        events = no_event before.events;
        ahead = sym made.ahead;
        last = sym made.looked;
        past = let none = made.looked in omega (arith, none);
        allowance = let whole = made.allowance in omega (arith, whole);
        ended = sym made.ended;
      };
      here = refl;
      lately = let none = ap (λ s. s.turns) made.state in omega (arith, none);
      none = made.ahead;
      held = few_held (state_of c.new-playing.result []).run (ap (λ s. s.run.system.terminal.console.output) made.state);
    }) in
    let looked = c.close-end.ensures.looks start before stopped in
    let closed = c.close-end.ensures.ended c.args.limit start before (c.play-end.ensures.so_far start before (none_came_yet g.S.Sectors.sectors g.S.Sectors.faults start before c.new-playing.result first (ap (λ s. s.arrivals) c.new-playing.ensures.state) c.new-playing.ensures.ended)) stopped in
    let final = state_of c.play-end.new.self closed.0 in
    inl (
      c.in-Ok.state.0,
      c.in-Ok.state.1,
      final,
      c.in-Ok.ensures,
      subst (λ (e : PlayEnd). PlayEnds g.S.Sectors.sectors g.S.Sectors.faults c.args.limit start e final) (sym played.end) closed.1,
      played.turns ∙ others.turns,
      subst (λ n. n ≤ c.args.limit) (sym (played.turns ∙ others.turns)) c.play-end.ensures.bound,
      played.pc ∙ ap (λ r. r.pc) others.cpu,
      played.disk ∙ others.disk,
      played.arrivals ∙ others.arrivals,
      same_arrives before c.play-end.new.self.arrivals.items _ (played.arrivals ∙ others.arrivals) closed.2,
      subst (λ (e : PlayEnd). Sees e before (g.K.Station.seat c.close-end.new.station) final) (sym played.end) closed.3,
      λ reason is. sooner c.play-end.new.self.turns _ c.play-end.new.self.arrivals.items _ (let t = played.turns ∙ others.turns in omega (arith, t)) (played.arrivals ∙ others.arrivals) (closed.4 reason (sym played.end ∙ is)),
      (looked.0, looked.1, subst (λ (e : PlayEnd). HasHappened g.S.Sectors.sectors g.S.Sectors.faults e start final looked.0) (sym played.end) (happened _ _ c.close-end.result start c.play-end.new.self closed.0 looked.0 looked.2)),
    )
