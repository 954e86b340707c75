use Rattle.std.proofs.Common.{◌≡◌, map, sym, ap, subst, ◌∙◌}
use Rattle.asm_parse.specs.Expression.{postfix}
use Rattle.asm_parse.specs.Values.Postfix.{tree}
use Rattle.asm_expr.specs.Settling.{known_item, standing}
use Rattle.asm_expr.specs.Private.Folding.{Folds, fold_all}
use Rattle.asm_expr.proofs.Known.{known-postfix}
use Rattle.asm_expr.proofs.reduction.take_settled.Goals as goal

pub returns-in-Known-clause-folds : goal.returns-in-Known-clause-folds
returns-in-Known-clause-folds c = λ before is.
    let stands : postfix (standing c.args.settled.now) ≡ map known_item c.in-Known.expr =
    ap (λ s. postfix (standing s)) c.in-Known.is ∙ known-postfix (tree c.in-Known.expr) ∙ ap (map known_item) c.take_expr.ensures.whole in
    subst (λ items. Folds (fold_all c.args.names.now items before) c.take_expr.result c.take_expr.new.out) (sym stands) (c.take_expr.ensures.folds before is)
