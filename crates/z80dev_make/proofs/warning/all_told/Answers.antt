use Rattle.std.proofs.Common.{arith, map}
use Rattle.z80dev_make.specs.Private.Shown.{shown_of}
use Rattle.z80dev_make.specs.Warned.{IsGivenAs}
use Rattle.report_texts.proofs.In_order.{one_more}
use Rattle.z80dev_make.proofs.warning.all_told.Goals as goal

pub loop-warning-preserved : goal.loop-warning-preserved
loop-warning-preserved c = one_more (IsGivenAs (map shown_of c.args.sources.now)) c.args.found.now c.loop-warning.warning-index _ c.loop-warning.all.items _ _ (omega arith) c.loop-warning.invariant c.in_ok-told.ensures c.in_ok-push.ensures.items
