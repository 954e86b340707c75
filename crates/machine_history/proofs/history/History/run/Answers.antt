use Rattle.std.specs.Prelude.{is_some}
use Rattle.std.proofs.Common.{◌∙◌, Err, Ok, Result, ap, arith, refl, subst, sym, ℕ}
use Rattle.std.specs.Result.{OnErr}
use Rattle.machine_history.specs.Stops.{holds}
use Rattle.machine_history.specs.Walk.{IsTrue_of_run, LeadsBy, Point, Shown}
use Rattle.machine_history.specs.Walk.LeadsBy.{none, more}
use Rattle.machine_history.proofs.Going.{true_more}
use Rattle.machine_history.proofs.history.History.run.Goals as goal

-- what holds in any case holds after an error
on_err : {T E P : Type 0} (r : Result T E) → P → OnErr r P
on_err (Ok x) p = tt
on_err (Err e) p = p

pub loop-init : goal.loop-init
loop-init c = record {
  start = refl;
  turn = omega arith;
  leads = none c.args.self.now.point;
  after = subst (λ (h : Shown). IsTrue_of_run h) c.self.view_is c.self.invariant.now_is;
}

pub returns-in-Some-clause-after : goal.returns-in-Some-clause-after
returns-in-Some-clause-after c = true_more c.loop.self c.step.new.self c.loop.invariant.after c.in_ok-hit.ensures.start c.in_ok-hit.ensures.turn c.in_ok-hit.ensures.next

pub loop-preserved : goal.loop-preserved
loop-preserved c = record {
  start = c.in_ok-hit.ensures.start ∙ c.loop.invariant.start;
  turn = omega (arith, c.in_ok-hit.ensures.turn);
  leads = more c.loop.counter c.args.self.now.point c.loop.self.point c.step.new.self.point c.loop.invariant.leads c.in_ok-hit.ensures.next (ap is_some (sym c.in_ok-hit.ensures.held ∙ c.in_default.is));
  after = true_more c.loop.self c.step.new.self c.loop.invariant.after c.in_ok-hit.ensures.start c.in_ok-hit.ensures.turn c.in_ok-hit.ensures.next;
}

pub returns-in_err-hit-clause-stopped : goal.returns-in_err-hit-clause-stopped
returns-in_err-hit-clause-stopped c =
    let same = c.in_err-hit.ensures.stopped in
    let turn = ap (λ (h : Shown). h.turn) same ∙ c.loop.invariant.turn in
    let leads = subst (λ (p : Point). LeadsBy (holds c.args.goal c.args.stops.now) c.loop.counter c.args.self.now.point p) (sym (ap (λ (h : Shown). h.point) same)) c.loop.invariant.leads in
    on_err c.from_residual-in_err-hit.result (c.loop.counter, omega (arith, c.loop-test.true), turn, leads)

pub returns-in_err-watched-clause-after : goal.returns-in_err-watched-clause-after
returns-in_err-watched-clause-after c = subst (λ (h : Shown). IsTrue_of_run h) c.self.view_is c.self.invariant.now_is

pub returns-in_err-watched-clause-stopped : goal.returns-in_err-watched-clause-stopped
returns-in_err-watched-clause-stopped c = on_err c.from_residual.result (0, omega arith, omega arith, none c.args.self.now.point)
