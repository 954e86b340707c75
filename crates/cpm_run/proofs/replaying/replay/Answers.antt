use Rattle.std.proofs.Common.{◌≤◌, ◌∙◌, [], ℕ, List, inl, subst, sym, ap}
use Rattle.cpm_run.specs.declared.arriving.Arrival.{Arrival}
use Rattle.cpm_run.specs.declared.arriving.PlayEnd.{PlayEnd}
use Rattle.cpm_run.specs.Play.{FollowsRecord, IsShownAgain, NextIsDue, PlaysOn, ReplayEnds, due_from, first_state, last_due}
use Rattle.cpm_run.specs.Play.PlaysOn.{same}
use Rattle.cpm_run.specs.Private.Playing.{state_of}
use Rattle.cpm_run.proofs.Looking.{no_event}
use Rattle.cpm_run.proofs.Sitting.{at_first}
use Rattle.cpm_run.proofs.replaying.replay.Goals as goal

pub returns : goal.returns
returns g c =
    let start = first_state c.in-Ok.state.0 c.in-Ok.state.1 c.args.disk in
    let before = g.K.Station.seat c.args.station.now in
    let first = at_first g.S.Sectors.sectors g.S.Sectors.faults start before c.new-playing.result (subst (PlaysOn g.S.Sectors.sectors g.S.Sectors.faults start) (sym c.new-playing.ensures.state) (same start)) c.new-playing.ensures.ahead in
    let closed = c.finish-end.ensures.ended c.args.limit c.args.last start before (c.repeat-end.ensures.stands start before first) c.repeat-end.ensures.keys
    (c.repeat-end.ensures.told before (record { none = c.new-playing.ensures.ahead; events = []; told = no_event before.events })) in
    let others = c.finish-end.ensures.others in
    let played = c.into_played.ensures in
    let final = state_of c.repeat-end.new.self closed.0 in
    let kept = c.repeat-end.ensures.follows (ap (λ s. s.arrivals) c.new-playing.ensures.state) (ap (λ s. s.turns) c.new-playing.ensures.state) in
    inl (
      c.in-Ok.state.0,
      c.in-Ok.state.1,
      final,
      c.in-Ok.ensures,
      subst (λ (e : PlayEnd). ReplayEnds g.S.Sectors.sectors g.S.Sectors.faults c.args.limit c.args.last start e final) (sym played.end) closed.1,
      played.turns ∙ others.turns,
      subst (λ n. n ≤ c.args.limit) (sym (played.turns ∙ others.turns)) c.repeat-end.ensures.bound,
      played.pc ∙ ap (λ r. r.pc) others.cpu,
      played.disk ∙ others.disk,
      played.arrivals ∙ others.arrivals,
      subst (λ (e : PlayEnd). IsShownAgain e before (g.K.Station.seat c.finish-end.new.station) final) (sym played.end) closed.2,
      λ is.
          let due = c.repeat-end.ensures.short (ap (λ s. s.arrivals) c.new-playing.ensures.state) (c.finish-end.ensures.short (sym played.end ∙ is)) in
          subst (λ (n : ℕ). NextIsDue c.args.recorded.now n c.into_played.result.arrivals.items) (sym (played.turns ∙ others.turns))
          (subst (λ (l : List Arrival). NextIsDue c.args.recorded.now c.repeat-end.new.self.turns l) (sym (played.arrivals ∙ others.arrivals)) due),
      subst (λ n. FollowsRecord (due_from 0 c.args.recorded.now) (last_due 0 c.args.recorded.now c.args.last) n c.into_played.result.arrivals.items) (sym (played.turns ∙ others.turns)) (subst (λ l. FollowsRecord (due_from 0 c.args.recorded.now) (last_due 0 c.args.recorded.now c.args.last) c.repeat-end.new.self.turns l) (sym (played.arrivals ∙ others.arrivals))
          kept.0),
      λ left. played.arrivals ∙ others.arrivals ∙ kept.1 (c.finish-end.ensures.left (sym played.end ∙ left)),
    )
