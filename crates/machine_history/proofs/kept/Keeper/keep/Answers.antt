use Rattle.machine_history.proofs.Going.{going, kept_more}
use Rattle.machine_history.proofs.kept.Keeper.keep.Goals as goal

pub returns-then-len-lt-MOST_KEPT-clause-known : goal.returns-then-len-lt-MOST_KEPT-clause-known
returns-then-len-lt-MOST_KEPT-clause-known c = λ start known after.
    kept_more start c.make_room.new.self.states.items c.push.new.self.items _ _ c.push.ensures.items (c.make_room.ensures.known start known)
    (going start c.args.turn c.args.point.now c.in-Some.snapshot c.in-Some.ensures.0 c.in-Some.ensures.1 after)
