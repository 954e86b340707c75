use Rattle.cpm_image.specs.Directory.Entries.{blocks_of}
use Rattle.cpm_image.proofs.Marks.{IsMarking}
use Rattle.cpm_image.proofs.directory.blocks.mark.Given as goal

abbrev pub invariant-loop-group : goal.invariant-loop-group
invariant-loop-group l = IsMarking l.fn.marks l.marks (blocks_of l.kind l.entry) l.group l.own
