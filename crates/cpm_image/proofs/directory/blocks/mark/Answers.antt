use Rattle.std.proofs.Common.{arith}
use Rattle.cpm_image.specs.Directory.Entries.{blocks_of}
use Rattle.cpm_image.proofs.Marks.{turn, finished}
use Rattle.std.proofs.lemmas.List.{take_all}
use Rattle.cpm_image.proofs.directory.blocks.mark.Goals as goal

pub loop-group-preserved : goal.loop-group-preserved
loop-group-preserved c = rw (c.mark_block-own.ensures.marked, c.mark_block-own.ensures.free) (turn _ c.loop-group.invariant (omega arith) c.block.ensures.block)

pub returns-clause-marked : goal.returns-clause-marked
returns-clause-marked c b h = rw (← take_all c.loop-group.group (blocks_of c.args.kind c.args.entry.now) (omega arith)) (c.loop-group.invariant.marked b h)

pub returns-clause-own : goal.returns-clause-own
returns-clause-own c small = finished c.loop-group.invariant (omega arith) small
