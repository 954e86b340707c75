use Rattle.std.proofs.Common.{Err, subst}
use Rattle.std.proofs.lemmas.Result.{err_from_is_err_and}
use Rattle.cert_check.specs.Choice.{chosen}
use Rattle.cert_check.specs.Private.Following.{IsFollowed, IsJudged}
use Rattle.cert_check.proofs.Checked.{follow_fault, judge_fault, passed}
use Rattle.cert_check.proofs.checker.judged.Goals as goal

pub returns-in_err-long : goal.returns-in_err-long
returns-in_err-long c =
    let from = err_from_is_err_and c.from_residual.result c.from_residual.ensures.1 in
    let shape = c.in-Ok.shape in
    let cert = c.in-Ok-read_cert.cert in
    let fault = c.in_err-long.field-0.0 in
    let over_shape = subst (λ s. IsFollowed s c.deref.result.now (Err fault)) c.statements-statements.ensures.value c.in_err-long.ensures in
    let followed = subst (λ o. IsFollowed shape o (Err fault)) c.deref.ensures.value over_shape in
    rw (from.1, from.2) (follow_fault c.args.sizes.now c.args.cert.now shape cert.order.items cert.verdict fault c.in-Ok.ensures.read c.in-Ok-read_cert.ensures.read followed)

pub returns-in_err-judge : goal.returns-in_err-judge
returns-in_err-judge c =
    let from = err_from_is_err_and c.from_residual-in_err-judge.result c.from_residual-in_err-judge.ensures.1 in
    let shape = c.in-Ok.shape in
    let cert = c.in-Ok-read_cert.cert in
    let fault = c.in_err-judge.field-0.0 in
    let followed = rw (c.statements-statements.ensures.value, c.deref.ensures.value) at c.in_ok-long.ensures in
    let over_shape = subst (λ s. IsJudged (chosen c.deref-3.result.now) s cert.verdict (Err fault)) c.statements-statements.ensures.value c.in_err-judge.ensures in
    let judged = subst (λ long. IsJudged (chosen long) shape cert.verdict (Err fault)) c.deref-3.ensures.value over_shape in
    rw (from.1, from.2) (judge_fault c.args.sizes.now c.args.cert.now shape cert.order.items c.in_ok-long.long.items cert.verdict fault c.in-Ok.ensures.read c.in-Ok-read_cert.ensures.read followed judged)

pub returns : goal.returns
returns c =
    let cert = c.in-Ok-read_cert.cert in
    let followed = rw (c.statements-statements.ensures.value, c.deref.ensures.value) at c.in_ok-long.ensures in
    let judged = rw (c.statements-statements.ensures.value, c.deref-3.ensures.value) at c.in_ok-judge.ensures in
    passed c.args.sizes.now c.args.cert.now c.in-Ok.shape cert.order.items c.in_ok-long.long.items cert.verdict tt c.in-Ok.ensures.read c.in-Ok-read_cert.ensures.read followed judged
