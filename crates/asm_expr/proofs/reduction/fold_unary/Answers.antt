use Rattle.std.proofs.Common.{refl, sym, ap, ◌∙◌}
use Rattle.asm_expr.specs.Private.Folding.{leaf_of}
use Rattle.asm_expr.proofs.Spread.{unary_ends, unary_number, unary_other}
use Rattle.asm_expr.proofs.reduction.fold_unary.Goals as goal

pub replace_last-requires-clause-leaf : goal.replace_last-requires-clause-leaf
replace_last-requires-clause-leaf c =
    unary_ends c.args.op c.args.items.now c.last.result c.in-Some.leaf c.requires.some c.last.ensures (sym (c.in-Some.ensures ∙ ap leaf_of c.folded_unary.ensures))

pub returns-in-Some-clause-folds : goal.returns-in-Some-clause-folds
returns-in-Some-clause-folds c = λ a before is.
    unary_number c.args.op a before _ _ c.last.result _ c.in-Some.leaf is refl c.last.ensures (sym (c.in-Some.ensures ∙ ap leaf_of c.folded_unary.ensures)) c.replace_last.ensures

pub returns-in-None-clause-folds : goal.returns-in-None-clause-folds
returns-in-None-clause-folds c = λ a before is.
    unary_other c.args.op a before _ _ c.last.result _ is refl c.last.ensures (sym (c.in-None.ensures ∙ ap leaf_of c.folded_unary.ensures)) c.push.ensures
