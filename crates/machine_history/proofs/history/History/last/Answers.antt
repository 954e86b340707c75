use Rattle.std.proofs.Common.{◌≡◌, ℕ, ◌+◌, None, Option, ap, ◌∙◌, arith, subst, sym}
use Rattle.machine_history.specs.Stops.{IsLastBefore, holds}
use Rattle.machine_history.specs.Walk.{Shown, never}
use Rattle.machine_history.specs.declared.stops.Hit.{Hit}
use Rattle.machine_history.proofs.Going.{begun, go_on, goes_on, last_more, room}
use Rattle.machine_history.proofs.history.History.last.Goals as goal

pub loop-number-init : goal.loop-number-init
loop-number-init c =
    let same = c.in_ok-copied.ensures ∙ ap (λ (h : Shown). h.start) c.self.view_is in
    record {
      known = begun (holds None c.args.stops.now) c.args.self.now.start c.in_ok-copied.field-0 c.first-point.result c.first-point.ensures same;
      all = begun never c.args.self.now.start c.in_ok-copied.field-0 c.first-point.result c.first-point.ensures same;
    }

pub loop-number-preserved : goal.loop-number-preserved
loop-number-preserved c =
    let n = c.loop-number.number in
    let start = c.args.self.now.start in
    let more = last_more c.args.stops.now start n c.loop-number.point c.advance.new.point c.loop-number.last c.in_ok-held.held c.loop-number.invariant.known c.loop-number.invariant.all c.in_ok-held.ensures.next c.in_ok-held.ensures.held in
    record {
      known = subst (λ (r : Option (ℕ × Hit)). IsLastBefore c.args.stops.now start (n + 1) c.advance.new.point r) (sym c.later-last.ensures) more;
      all = go_on start n c.loop-number.point c.advance.new.point c.loop-number.invariant.all c.in_ok-held.ensures.next;
    }

pub returns-then-ends_so : goal.returns-then-ends_so
returns-then-ends_so c =
    let e : c.loop-number.number ≡ c.args.turn = omega arith in
    (c.loop-number.point, c.ends_so.ensures c.if-ends_so.true, subst (λ (n : ℕ). IsLastBefore c.args.stops.now c.args.self.now.start n c.loop-number.point c.loop-number.last) e c.loop-number.invariant.known)

pub advance-requires-clause-room : goal.advance-requires-clause-room
advance-requires-clause-room c =
    let first = ap (λ (h : Shown). h.start.turns) (sym c.self.view_is) ∙ c.self.invariant.first in
    let going = goes_on c.loop-number.point.end c.end.result c.is_some.result c.end.ensures c.is_some.ensures c.if-is_some.false in
    let below = c.loop-number-test.true in
    room c.args.self.now.start c.loop-number.number c.loop-number.point first c.loop-number.invariant.all going (let most = c.ranges.turn.fits in omega (arith, below, most))
