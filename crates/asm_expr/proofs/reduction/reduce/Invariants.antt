use Rattle.std.proofs.Common.{map}
use Rattle.asm_parse.specs.Source.{source_item}
use Rattle.asm_expr.proofs.Steps.{Settles}
use Rattle.asm_expr.proofs.reduction.reduce.Given as goal

abbrev pub invariant-loop-item : goal.invariant-loop-item
invariant-loop-item l = Settles l.names (map source_item l.item-items) l.item-index l.size l.out
