use Rattle.std.proofs.Common.{◌++◌, Err, None, Ok, ap, arith, inl, sym, subst}
use Rattle.cpm_run.specs.Play.{Attends, PlaysOn}
use Rattle.cpm_run.specs.Private.Playing.{state_of}
use Rattle.cpm_run.specs.declared.playing.state.Playing.{Playing}
use Rattle.cpm_run.proofs.Looking.{screen_failed, showed_rest, told_of}
use Rattle.cpm_run.proofs.Sitting.{none_ahead}
use Rattle.cpm_run.proofs.playing.state.Playing.show_all.Goals as goal

pub returns-in-Ok-clause-so_far : goal.returns-in-Ok-clause-so_far
returns-in-Ok-clause-so_far g c = λ start before stands.
    let all = c.in-Ok.ensures.all before stands.shown stands.seen in record {
      shown = stands.shown ++ all.0;
      plays = c.in-Ok.ensures.rest.2 start stands.shown all.0 all.1 stands.plays;
      seen = none_ahead before (g.K.Station.seat c.show.new.station) stands.shown all.0 _ all.2 c.in-Ok.ensures.rest.0;
    }

pub returns-in-Err-clause-so_far : goal.returns-in-Err-clause-so_far
returns-in-Err-clause-so_far g c = λ start before stands. record {
  shown = stands.shown;
  plays = subst (λ (p : Playing _). PlaysOn g.S.Sectors.sectors g.S.Sectors.faults start (state_of p stands.shown)) (sym c.in-Err.ensures.failed) stands.plays;
}

pub returns-in-Ok-clause-looks : goal.returns-in-Ok-clause-looks
returns-in-Ok-clause-looks g c = λ start before a watched put.
    let rest = c.in-Ok.ensures.events in
    showed_rest _ _ start before (g.K.Station.seat c.args.station.now) (g.K.Station.seat c.show.new.station) c.args.self.now c.show.new.self a rest.0 watched rest.1 c.in-Ok.ensures.cleared c.show.ensures.others.cpu c.show.ensures.others.memory c.show.ensures.others.turns c.show.ensures.others.arrivals c.show.ensures.others.looked (c.in-Ok.ensures.spent rest.0 rest.1) c.show.ensures.others.ended c.in-Ok.ensures.rest.0 rest.2

pub returns-in-Ok-clause-less : goal.returns-in-Ok-clause-less
returns-in-Ok-clause-less g c = let rest = c.in-Ok.ensures.events in let spent = c.in-Ok.ensures.spent rest.0 rest.1 in omega (arith, spent)

pub returns-in-Err-clause-less : goal.returns-in-Err-clause-less
returns-in-Err-clause-less g c = let same = ap (λ (p : Playing _). p.allowance) c.in-Err.ensures.failed in omega (arith, same)

pub returns-in-Err-clause-looks : goal.returns-in-Err-clause-looks
returns-in-Err-clause-looks g c = λ start before a watched put.
    screen_failed _ _ Unit c.in-Err.fault start before (g.K.Station.seat c.args.station.now) (g.K.Station.seat c.show.new.station) c.args.self.now c.show.new.self a (inl (watched.shown, subst (λ (p : Playing _). Attends g.S.Sectors.sectors g.S.Sectors.faults start (state_of p watched.shown) a) (sym c.in-Err.ensures.failed) watched.attends)) watched.events watched.ahead
    (ap (λ (p : Playing _). p.bdos.terminal.console.output) c.in-Err.ensures.failed) None put (λ e. absurd cc) c.in-Err.ensures.events

pub returns-in-Ok-clause-told : goal.returns-in-Ok-clause-told
returns-in-Ok-clause-told g c = λ before quiet. told_of {A = Unit} {E = Unit} (Ok tt) before (g.K.Station.seat c.args.station.now) (g.K.Station.seat c.show.new.station) c.args.self.now c.show.new.self quiet c.in-Ok.ensures.events c.in-Ok.ensures.rest.0

pub returns-in-Err-clause-told : goal.returns-in-Err-clause-told
returns-in-Err-clause-told g c = λ before quiet. told_of {A = Unit} (Err c.in-Err.fault) before (g.K.Station.seat c.args.station.now) (g.K.Station.seat c.show.new.station) c.args.self.now c.show.new.self quiet c.in-Err.ensures.events tt
