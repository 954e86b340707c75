use Rattle.std.proofs.Common.{rules, ◌≡◌, ◌<◌, length, arith}
use Rattle.asm_names.proofs.Orders.Ordered.{ordered}
use Rattle.asm_names.proofs.ordering.order.Goals as goal

pub returns : goal.returns
returns c =
    let now = c.loop-definition.invariant in
    rw c.into_turns.ensures (ordered c.args.uses.now c.loop-definition.walk now.standing now.empty (λ k lt. now.seen k (omega (arith, lt, c.loop-definition-test.false))))
