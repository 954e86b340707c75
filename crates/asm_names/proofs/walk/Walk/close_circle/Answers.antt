use Rattle.std.proofs.Common.{rules, ◌≡◌, ◌∙◌, length, true, arith}
use Rattle.asm_names.proofs.Orders.Keeping.{keeps_turned}
use Rattle.asm_names.proofs.Orders.Closed.{circle_turn, circle_closed}
use Rattle.asm_names.proofs.walk.Walk.close_circle.Goals as goal

pub loop-self-preserved : goal.loop-self-preserved
loop-self-preserved c =
    let len : c.len.result ≡ length c.loop-self.self.path.items = search rules in
    let now = c.loop-self.invariant in
    let t = c.in_ok-turn.ensures in
    let next = circle_turn c.args.uses.now c.args.start c.loop-self.self c.turn.new.self t now.draining now.circle (omega (arith, len, c.loop-self-test.true)) in
    record { draining = next.0; circle = next.1; seen = keeps_turned true c.loop-self.self c.turn.new.self c.args.self.now.seen.items t now.seen; followed = t.followed ∙ now.followed; frames = t.frames ∙ now.frames }

pub returns-clause-standing : goal.returns-clause-standing
returns-clause-standing c =
    let len : c.len.result ≡ length c.loop-self.self.path.items = search rules in
    circle_closed c.args.uses.now c.args.start c.loop-self.self c.loop-self.invariant.draining (omega (arith, len, c.loop-self-test.false))
