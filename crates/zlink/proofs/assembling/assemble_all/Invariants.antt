use Rattle.zlink.proofs.One_by_one.{SoFar}
use Rattle.zlink.proofs.assembling.assemble_all.Given as goal

abbrev pub invariant-loop-number : goal.invariant-loop-number
invariant-loop-number l = SoFar l.grow l.sources l.number l.modules.items l.lines.items
