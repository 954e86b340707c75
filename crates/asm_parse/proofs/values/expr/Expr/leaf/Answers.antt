use Rattle.std.proofs.Common.{refl, arith}
use Rattle.asm_parse.specs.Expression.{Leaf}
use Rattle.asm_parse.proofs.values.expr.Expr.leaf.Goals as goal

pub invariant_of-result : goal.invariant_of-result
invariant_of-result c = record { tree = Leaf c.args.atom; spelled = refl; few = omega arith; guarded = refl }
