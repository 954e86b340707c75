use Rattle.std.proofs.Common.{refl, sym, ◌∙◌}
use Rattle.cpm_image.proofs.AllFaults.{entry_kept, entry_listed, entry_skipped, start}
use Rattle.cpm_image.proofs.directory.rules.faults.Goals as goal
use Rattle.cpm_image.proofs.directory.rules.faults.Goals.{then-is_extent+in-Ok, then-is_extent+in-Err+in_ok-push-in-Err, else-is_extent}

pub loop-number-init : goal.loop-number-init
loop-number-init c = start c.args.kind c.args.entries.now _ c.new-broken.ensures.items

pub loop-number-preserved : goal.loop-number-preserved
loop-number-preserved c = elim c.if-is_extent.branch [
  | then-is_extent+in-Ok w ↦
      rw (w.marks-is, w.broken-is) (entry_kept c.args.kind _ c.loop-number.invariant c.loop-number-test.true (sym c.is_extent.ensures ∙ w.if-is_extent.true) w.in-Ok.ensures.judged w.in-Ok.ensures.marked)
  | then-is_extent+in-Err+in_ok-push-in-Err w ↦
      rw (w.marks-is, w.broken-is, w.in_ok-push-in-Err.ensures.items) (entry_listed c.args.kind _ _ c.loop-number.invariant c.loop-number-test.true (sym c.is_extent.ensures ∙ w.if-is_extent.true) refl refl w.in-Err.ensures.judged w.in-Err.ensures.marked)
  | else-is_extent w ↦ rw (w.marks-is, w.broken-is) (entry_skipped c.args.kind _ c.loop-number.invariant c.loop-number-test.true (sym c.is_extent.ensures ∙ w.if-is_extent.false))
]
