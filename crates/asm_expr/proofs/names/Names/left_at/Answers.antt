use Rattle.std.proofs.Common.{length, sym, ap, subst, ◌∙◌, arith}
use Rattle.asm_expr.specs.Private.Entries.{Knows}
use Rattle.asm_expr.proofs.Entries.{knows_now}
use Rattle.asm_expr.proofs.names.Names.left_at.Goals as goal

pub returns-then-is_left : goal.returns-then-is_left
returns-then-is_left c =
    knows_now c.args.self.now c.args.meaning.now c.in-Equ.equated c.in-Known.expr c.len.result c.in-Equ.is c.in-Known.is (c.len.ensures ∙ ap (λ t. length t.statements) c.self.view_is) (c.is_left.ensures c.if-is_left.true)
