use Rattle.std.proofs.Common.{Ok, sym, ap, ◌∙◌}
use Rattle.asm_expr.specs.declared.answer.Settled.{Settled}
use Rattle.asm_parse.specs.Values.Postfix.{source_tree}
use Rattle.asm_expr.proofs.OneTerm.{alone_settled}
use Rattle.asm_expr.proofs.Worths.{worth_of_settled}
use Rattle.asm_expr.proofs.answer.settle.Goals as goal

pub returns-in-Some-clause-worth : goal.returns-in-Some-clause-worth
returns-in-Some-clause-worth c =
    let t = c.args.names.now in
    let is = alone_settled t c.args.parsed.now c.in-Some.atom (sym c.in-Some.ensures.alone) in
    worth_of_settled t c.counted.ensures (source_tree c.args.parsed.now) (Settled.Known c.leaf.result) (is ∙ ap (λ items. Ok (Settled.Known items)) (sym c.leaf.ensures))

pub returns-in-Some-2-clause-worth : goal.returns-in-Some-2-clause-worth
returns-in-Some-2-clause-worth c =
    worth_of_settled c.args.names.now c.counted.ensures (source_tree c.args.parsed.now) (Settled.Known c.in-Some-2.expr) (rw c.in-Some-2.is at c.in_ok-expr-in-None.ensures)
