use Rattle.std.proofs.Common.{Ok, Err, sym, ap, subst, ◌∙◌}
use Rattle.std.proofs.lemmas.List.Folds.{list_all-map}
use Rattle.std.proofs.lemmas.Bool.{false≢true}
use Rattle.asm_expr.specs.Private.Heads.{IsNotFromHere, numbered}
use Rattle.std.proofs.lemmas.Result.{err_from_is_err_and}
use Rattle.asm_parse.specs.Source.{source_item}
use Rattle.asm_parse.specs.Values.Postfix.{source_tree}
use Rattle.asm_expr.specs.Settling.{is_constant_item}
use Rattle.asm_expr.specs.Types.{Settled}
use Rattle.asm_expr.proofs.Answers.{is_settled}
use Rattle.asm_expr.proofs.Steps.{source_whole}
use Rattle.asm_expr.proofs.Offsets.{begins, no_fault, said, refused, varies, unknown, number, other}
use Rattle.asm_expr.proofs.here.offset_from_here.Goals as goal

pub returns-in_default : goal.returns-in_default
returns-in_default c =
    let t = c.args.names.now in
    let e = source_tree c.args.parsed.now in
    let whole = source_whole c.args.parsed.now c.items-operand.ensures.source ∙ sym c.items-operand.ensures.items in
    other t e (λ alone. false≢true (sym c.if-is_here.false ∙ c.is_here.ensures.1 (sym whole ∙ alone))) (subst IsNotFromHere (sym whole) c.in_default.ensures)

pub returns-in_err-settled : goal.returns-in_err-settled
returns-in_err-settled c =
    let e = source_tree c.args.parsed.now in
    let whole = source_whole c.args.parsed.now c.items-operand.ensures.source ∙ sym c.items-operand.ensures.items in
    let b = begins e c.in-Some.op _ _ whole c.in-Some.ensures in
    let p = err_from_is_err_and c.from_residual.result c.from_residual.ensures.1 in
    rw (p.1, p.2) (refused c.args.names.now e c.in-Some.op _ c.in_err-settled.field-0.0 b (is_settled c.args.names.now e (Err c.in_err-settled.field-0.0) c.in_err-settled.ensures.settled))

pub returns-then-not-all_constant : goal.returns-then-not-all_constant
returns-then-not-all_constant c =
    let t = c.args.names.now in
    let e = source_tree c.args.parsed.now in
    let whole = source_whole c.args.parsed.now c.items-operand.ensures.source ∙ sym c.items-operand.ensures.items in
    let b = begins e c.in-Some.op _ _ whole c.in-Some.ensures in
    let all = list_all-map (is_constant_item t) source_item c.in-Some.n.now ∙ sym c.if-not-all_constant.ensures in
    (no_fault t e c.in_ok-settled.settled (is_settled t e (Ok c.in_ok-settled.settled) c.in_ok-settled.ensures.settled), varies t e c.in-Some.op _ b all)

pub returns-in-Known : goal.returns-in-Known
returns-in-Known c =
    let t = c.args.names.now in
    let e = source_tree c.args.parsed.now in
    let whole = source_whole c.args.parsed.now c.items-operand.ensures.source ∙ sym c.items-operand.ensures.items in
    let b = begins e c.in-Some.op _ _ whole c.in-Some.ensures in
    let all = list_all-map (is_constant_item t) source_item c.in-Some.n.now ∙ sym c.if-not-all_constant.ensures in
    let made = is_settled t e (Ok (Settled.Known c.in-Known.expr)) (rw c.in-Known.is at c.in_ok-settled.ensures.settled) in
    said t e c.numbered.result made.0 (number t e c.in-Some.op _ c.in-Known.expr b all made.1 ∙ ap (numbered c.in-Some.op) (sym c.items.ensures.items) ∙ sym c.numbered.ensures)

pub returns-in-Unknown : goal.returns-in-Unknown
returns-in-Unknown c =
    let t = c.args.names.now in
    let e = source_tree c.args.parsed.now in
    let whole = source_whole c.args.parsed.now c.items-operand.ensures.source ∙ sym c.items-operand.ensures.items in
    let b = begins e c.in-Some.op _ _ whole c.in-Some.ensures in
    let all = list_all-map (is_constant_item t) source_item c.in-Some.n.now ∙ sym c.if-not-all_constant.ensures in
    let made = is_settled t e (Ok (Settled.Unknown c.in-Unknown.field-0)) (rw c.in-Unknown.is at c.in_ok-settled.ensures.settled) in
    (made.0, unknown t e c.in-Some.op _ b all made.1)
