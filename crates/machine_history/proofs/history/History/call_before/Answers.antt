use Rattle.std.proofs.Common.{◌≡◌, ℕ, ap, ◌∙◌, arith, inl, rules, subst, sym}
use Rattle.machine_history.specs.Calls.{IsCallTo, calls, shown_place}
use Rattle.machine_history.specs.Walk.{IsAfter, Shown, never}
use Rattle.machine_history.specs.declared.calls.ReturnPlace.{ReturnPlace}
use Rattle.machine_history.proofs.Going.{begun, call_made, go_on, goes_on, room}
use Rattle.machine_history.proofs.history.History.call_before.Goals as goal

pub loop-number-init : goal.loop-number-init
loop-number-init c =
    let same = c.in_ok-copied.ensures ∙ ap (λ (h : Shown). h.start) c.self.view_is in
    record {
      known = inl (begun (λ old new. calls c.shown_place-place.result old) c.args.self.now.start c.in_ok-copied.field-0 c.first-point.result c.first-point.ensures same);
      all = begun never c.args.self.now.start c.in_ok-copied.field-0 c.first-point.result c.first-point.ensures same;
    }

pub loop-number-preserved : goal.loop-number-preserved
loop-number-preserved c =
    let start = c.args.self.now.start in
    let known = c.loop-number.invariant.known in
    let all = c.loop-number.invariant.all in
    record {
      known = call_made c.shown_place-place.result start c.loop-number.number c.loop-number.point c.advance.new.self c.loop-number.call c.open_call-call.result c.snapshot-in-loop-number.result.now c.snapshot-in-loop-number.ensures c.open_call-call.ensures known all c.advance.ensures;
      all = go_on start c.loop-number.number c.loop-number.point c.advance.new.self all c.advance.ensures;
    }

pub returns : goal.returns
returns c =
    let shown = c.args.self.now in
    let same_turn : c.self.inside.turn ≡ shown.turn = ap (λ (h : Shown). h.turn) c.self.view_is in
    let e : c.loop-number.number ≡ shown.turn = omega (arith, same_turn) in
    let place : c.shown_place-place.result ≡ shown_place shown.point.state = c.shown_place-place.ensures ∙ ap shown_place (c.snapshot.ensures ∙ ap (λ (h : Shown). h.point.state) c.self.view_is) in (
      c.loop-number.point,
      subst (λ (n : ℕ). IsAfter shown.start n c.loop-number.point) e c.loop-number.invariant.all,
      subst (λ (p : ReturnPlace). IsCallTo p shown.start shown.turn c.loop-number.point c.loop-number.call) place
          (subst (λ (n : ℕ). IsCallTo c.shown_place-place.result shown.start n c.loop-number.point c.loop-number.call) e c.loop-number.invariant.known),
    )

pub advance-requires-clause-room : goal.advance-requires-clause-room
advance-requires-clause-room c =
    let first = ap (λ (h : Shown). h.start.turns) (sym c.self.view_is) ∙ c.self.invariant.first in
    let going = goes_on c.loop-number.point.end c.end.result c.is_some.result c.end.ensures c.is_some.ensures c.if-is_some.false in
    let below = c.loop-number-test.true in
    room c.args.self.now.start c.loop-number.number c.loop-number.point first c.loop-number.invariant.all going (search (rules, below))
