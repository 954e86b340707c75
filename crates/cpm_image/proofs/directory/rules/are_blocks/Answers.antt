use Rattle.std.proofs.Common.{arith}
use Rattle.cpm_image.proofs.OwnBlocks.{all_judged}
use Rattle.cpm_image.proofs.directory.rules.are_blocks.Goals as goal

pub returns : goal.returns
returns c = all_judged c.args.kind c.args.entry.now c.loop-group.group (omega arith) c.loop-group.invariant
