use Rattle.cpm_image.proofs.TakenBlocks.{AreTaken}
use Rattle.cpm_image.proofs.directory.blocks.taken.Given as goal

abbrev pub invariant-loop-entry : goal.invariant-loop-entry
invariant-loop-entry l = AreTaken l.kind l.marks l.entries l.entry-index
