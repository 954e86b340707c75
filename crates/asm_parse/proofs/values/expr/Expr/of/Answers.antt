use Rattle.std.proofs.Common.{refl, sym, ap, ◌∙◌}
use Rattle.asm_parse.specs.Private.Steps.{is_expr}
use Rattle.asm_parse.proofs.Judgements.{taken, refused}
use Rattle.asm_parse.proofs.values.expr.Expr.of.Goals as goal

pub invariant_of-result : goal.invariant_of-result
invariant_of-result c = taken _ (ap is_expr (sym c.deref.ensures.value) ∙ sym c.if-is_expr.ensures)

pub returns-then-is_expr : goal.returns-then-is_expr
returns-then-is_expr c = (refl, taken _ (ap is_expr (sym c.deref.ensures.value) ∙ sym c.if-is_expr.ensures))

pub returns-else-is_expr : goal.returns-else-is_expr
returns-else-is_expr c = refused _ (ap is_expr (sym c.deref.ensures.value) ∙ sym c.if-is_expr.ensures)
