use Rattle.asm_parse.proofs.ValuesLeft.{Leaves}
use Rattle.asm_parse.proofs.values.expr.values_left.Given as goal

abbrev pub invariant-loop-item : goal.invariant-loop-item
invariant-loop-item g l = Leaves l.items l.item-index l.left
