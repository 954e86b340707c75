use Rattle.std.proofs.Common.{◌∙◌}
use Rattle.source_warnings.specs.Private.Flat.{placed_of}
use Rattle.source_warnings.specs.Jumps.Warnings.{overs_in}
use Rattle.source_warnings.proofs.One_more.{one_more}
use Rattle.source_warnings.proofs.jumps.warnings.put_all_overs.Goals as goal

pub loop-own-preserved : goal.loop-own-preserved
loop-own-preserved c =
    one_more (overs_in c.args.jumps.now) placed_of c.args.placed.now c.loop-own.own-index c.own-item.result c.loop-own.found.items _ c.loop-own-test.true c.own-item.is c.in_ok-put_overs.ensures
    ∙ c.loop-own.invariant
