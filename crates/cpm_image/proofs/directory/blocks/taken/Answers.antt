use Rattle.std.proofs.Common.{sym, ◌∙◌}
use Rattle.std.proofs.lemmas.List.{take_all}
use Rattle.cpm_image.proofs.TakenBlocks.{none_taken, entry_marked, entry_passed}
use Rattle.cpm_image.proofs.directory.blocks.taken.Goals as goal
use Rattle.cpm_image.proofs.directory.blocks.taken.Goals.{then-is_extent, else-is_extent}

pub loop-entry-init : goal.loop-entry-init
loop-entry-init c = none_taken c.args.kind c.args.entries.now

pub loop-entry-preserved : goal.loop-entry-preserved
loop-entry-preserved c = elim c.if-is_extent.branch [
  | then-is_extent w ↦ rw (w.marks-is) (entry_marked c.args.kind _ c.loop-entry.invariant c.loop-entry-test.true (sym c.is_extent.ensures ∙ w.if-is_extent.true) w.mark.ensures.marked)
  | else-is_extent w ↦ rw (w.marks-is) (entry_passed c.args.kind _ c.loop-entry.invariant c.loop-entry-test.true (sym c.is_extent.ensures ∙ w.if-is_extent.false))
]

pub returns : goal.returns
returns c b h = rw (← take_all c.loop-entry.entry-index c.args.entries.now c.loop-entry-test.false) (c.loop-entry.invariant.taken b h)
