use Rattle.std.proofs.Common.{get_or}
use Rattle.asm_parse.proofs.ValueStack.{Valued}
use Rattle.asm_parse.proofs.values.expr.value_of.Given as goal

abbrev pub invariant-loop-item : goal.invariant-loop-item
invariant-loop-item l = Valued (λ r. get_or l.places r 0) l.items l.stack l.item-index l.len
