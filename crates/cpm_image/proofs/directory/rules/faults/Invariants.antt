use Rattle.cpm_image.proofs.AllFaults.{AreListed}
use Rattle.cpm_image.proofs.directory.rules.faults.Given as goal

abbrev pub invariant-loop-number : goal.invariant-loop-number
invariant-loop-number l = AreListed l.kind l.entries l.marks l.broken.items l.number
