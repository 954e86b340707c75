use Rattle.relax.proofs.Jumps.{JumpsBelow}
use Rattle.relax.proofs.worklist.relaxable_jumps.Given as goal

abbrev pub invariant-loop-statement : goal.invariant-loop-statement
invariant-loop-statement g l = JumpsBelow (g.R.Ruler.shape l.ruler) l.jumps.items l.statement
