use Rattle.cpm_image.proofs.FirstFault.{AreJudged}
use Rattle.cpm_image.proofs.directory.rules.judge.Given as goal

abbrev pub invariant-loop-number : goal.invariant-loop-number
invariant-loop-number l = AreJudged l.kind l.entries l.marks l.number
