use Rattle.std.proofs.Common.{◌≡◌, take, length, ap, arith}
use Rattle.std.proofs.lemmas.List.{take_all}
use Rattle.zlink.proofs.Agreement.{shape-there}
use Rattle.zlink.proofs.certify.tell_shape.Goals as goal

pub new-requires : goal.new-requires
new-requires c =
    let all : take c.loop-statement.statement-index c.args.shape.now ≡ c.args.shape.now = take_all _ _ (omega (arith, ap length c.statements-told.ensures.value)) in
    rw (c.loop-statement.invariant, all) (shape-there c.args.shape.now (rw (← c.statements-told.ensures.value) c.statements-told.ensures.shape))
