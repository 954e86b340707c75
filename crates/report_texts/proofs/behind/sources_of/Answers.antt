use Rattle.std.proofs.Common.{refl, arith}
use Rattle.report_texts.specs.Behind.{IsSource}
use Rattle.report_texts.proofs.In_order.{one_more}
use Rattle.report_texts.proofs.behind.sources_of.Goals as goal

pub loop-file-preserved : goal.loop-file-preserved
loop-file-preserved c = one_more IsSource c.args.files.now c.loop-file.file-index _ c.loop-file.sources.items _ _ (omega arith) c.loop-file.invariant (c.as_bytes.ensures.value, refl) c.in_ok-push.ensures.items
