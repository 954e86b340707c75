use Rattle.std.proofs.Common.{sym, subst, arith}
use Rattle.zlink.specs.Private.Assembling.{IsStop}
use Rattle.zlink.proofs.One_by_one.{one_more, stops}
use Rattle.zlink.proofs.assembling.assemble_all.Goals as goal

pub returns-in-Err : goal.returns-in-Err
returns-in-Err c =
    subst (IsStop c.args.grow c.args.sources.now) (sym c.of_source.ensures)
    (stops c.args.grow c.args.sources.now c.loop-number.number _ c.loop-number.modules.items c.loop-number.lines.items c.in-Err.fault (omega arith) c.loop-number.invariant c.in-Err.ensures.answer)

pub loop-number-preserved : goal.loop-number-preserved
loop-number-preserved c =
    one_more c.args.grow c.args.sources.now c.loop-number.number _ c.loop-number.modules.items c.loop-number.lines.items c.in-Ok.module c.in-Ok.own _ _ (omega arith) c.loop-number.invariant
    c.in-Ok.ensures.answer c.in-Ok.ensures.kept c.in-Ok.ensures.placed c.in_ok-push-in-Ok.ensures.items c.in_ok-push-in-Ok-2.ensures.items
