use Rattle.std.proofs.Common.{length}
use Rattle.cert_check.specs.Private.Reading.{ReadsSoFar}
use Rattle.cert_check.proofs.sizes.statements_of.Given as goal

abbrev pub invariant-loop-line : goal.invariant-loop-line
invariant-loop-line l = ReadsSoFar l.text l.rest l.statements.items

abbrev pub decreases-loop-line : goal.decreases-loop-line
decreases-loop-line l = length l.rest
