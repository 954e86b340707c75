use Rattle.std.proofs.Common.{◌≡◌, ap, ◌∙◌, arith}
use Rattle.machine_history.specs.Walk.{Shown}
use Rattle.machine_history.proofs.Going.{go_on, room}
use Rattle.machine_history.proofs.history.History.advance.Goals as goal

pub invariant_of-self : goal.invariant_of-self
invariant_of-self c =
    let next = go_on c.self.inside.start c.self.inside.turn c.self.inside.point c.advance.new.self c.self.invariant.now_is c.advance.ensures in
    record { first = c.self.invariant.first; kept_are = c.keep.ensures.known c.self.inside.start c.self.invariant.kept_are next; few = c.keep.ensures.few c.self.invariant.few; now_is = next }

pub advance-requires-clause-room : goal.advance-requires-clause-room
advance-requires-clause-room c =
    let number : c.self.inside.turn ≡ c.args.self.now.turn = ap (λ (h : Shown). h.turn) c.self.view_is in
    room c.self.inside.start c.self.inside.turn c.self.inside.point c.self.invariant.first c.self.invariant.now_is (ap (λ (h : Shown). h.point.end) c.self.view_is ∙ c.requires.going)
    (let below = c.requires.room in omega (arith, number, below))
