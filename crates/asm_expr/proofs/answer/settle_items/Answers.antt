use Rattle.std.proofs.Common.{◌≡◌, ◌≤◌, None, length, sym, subst, ap, ◌∙◌, arith, inl}
use Rattle.std.proofs.lemmas.Result.{err_from_is_err_and, IfOk-from_err}
use Rattle.asm_parse.specs.Expression.{postfix}
use Rattle.asm_parse.specs.Values.Postfix.{source_tree}
use Rattle.asm_parse.specs.Values.Kept.{kept}
use Rattle.asm_expr.specs.Settling.{IsWorth, items_known, reduced, replaced, worth_unknown}
use Rattle.asm_expr.specs.Private.Folding.{unknown_at_end}
use Rattle.asm_expr.proofs.Answers.{items_lost, refused, settled_unknown, unknown_end, unknown_worth, worth_of_known}
use Rattle.asm_expr.proofs.Guards.{positive}
use Rattle.asm_expr.proofs.answer.settle_items.Goals as goal

pub returns-in_err-reduced : goal.returns-in_err-reduced
returns-in_err-reduced c =
    let p = err_from_is_err_and c.from_residual.result c.from_residual.ensures.1 in
    let none = IfOk-from_err c.from_residual.result _ c.from_residual.ensures.0 in
    record { settled = (rw (p.1, p.2) (refused c.args.names.now (source_tree c.args.parsed.now) c.in_err-reduced.field-0.0 c.in_err-reduced.ensures)); worth = none }

pub known-requires : goal.known-requires
known-requires c =
    let known = (rw c.in-Some.is at c.in_ok-items.ensures) ∙ ap items_known (c.cells.ensures ∙ c.in_ok-reduced.ensures.1) in
    (worth_of_known c.args.names.now c.counted.ensures (source_tree c.args.parsed.now) (kept c.in-Some.items) c.in_ok-reduced.ensures.0 known).expr

pub returns-in-Some-clause-worth : goal.returns-in-Some-clause-worth
returns-in-Some-clause-worth c =
    let known = (rw c.in-Some.is at c.in_ok-items.ensures) ∙ ap items_known (c.cells.ensures ∙ c.in_ok-reduced.ensures.1) in
    subst (IsWorth c.args.names.now (source_tree c.args.parsed.now)) (sym c.known.ensures)
    (worth_of_known c.args.names.now c.counted.ensures (source_tree c.args.parsed.now) (kept c.in-Some.items) c.in_ok-reduced.ensures.0 known)

pub returns-in-None-clause-settled : goal.returns-in-None-clause-settled
returns-in-None-clause-settled c =
    let t = c.args.names.now in
    let e = source_tree c.args.parsed.now in
    let lost : None ≡ items_known (postfix (reduced t (replaced t e))) =
    (rw c.in-None.is at c.in_ok-items.ensures) ∙ ap items_known (c.cells.ensures ∙ c.in_ok-reduced.ensures.1) in
    let what = c.unknown_of.ensures ∙ ap unknown_at_end c.in_ok-reduced.ensures.1 ∙ unknown_end (reduced t (replaced t e)) in
    inl (settled_unknown t e c.unknown_of.result c.in_ok-reduced.ensures.0 lost what)

pub returns-in-None-clause-worth : goal.returns-in-None-clause-worth
returns-in-None-clause-worth c =
    let t = c.args.names.now in
    let e = source_tree c.args.parsed.now in
    let lost : None ≡ items_known (postfix (reduced t (replaced t e))) =
    (rw c.in-None.is at c.in_ok-items.ensures) ∙ ap items_known (c.cells.ensures ∙ c.in_ok-reduced.ensures.1) in
    let what = c.unknown_of.ensures ∙ ap unknown_at_end c.in_ok-reduced.ensures.1 ∙ unknown_end (reduced t (replaced t e)) in
    unknown_worth t (replaced t e) (items_lost (postfix (reduced t (replaced t e))) (sym lost)) ∙ ap worth_unknown (sym what)

pub unknown_of-requires : goal.unknown_of-requires
unknown_of-requires c = omega (arith, positive (reduced c.args.names.now (replaced c.args.names.now (source_tree c.args.parsed.now))), ap length c.in_ok-reduced.ensures.1)
