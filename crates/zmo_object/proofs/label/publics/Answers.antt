use Rattle.std.proofs.Common.{◌+◌}
use Rattle.std.proofs.lemmas.Result.{err_from_is_err_and}
use Rattle.zmo_object.specs.Fields.Field.{many}
use Rattle.zmo_object.proofs.Fields.Many.{as_fault, fails, goes_on, is_done}
use Rattle.zmo_object.specs.Reading.{public_at}
use Rattle.zmo_object.proofs.label.publics.Goals as goal

pub returns-in_err-next : goal.returns-in_err-next
returns-in_err-next c =
    let p = err_from_is_err_and c.from_residual-in_err-next.result c.from_residual-in_err-next.ensures.1 in
    let whole = many (public_at c.args.labels) (λ _ p. p + 1) 0 c.args.count c.args.bytes.now in
    rw (p.1, p.2) (as_fault c.in_err-next.field-0.0 whole (fails (public_at c.args.labels) (λ _ p. p + 1) c.loop.publics.items c.loop.least c.args.count c.loop.counter c.loop.rest.now whole c.in_err-next.field-0.0 c.loop-test.true c.in_err-next.ensures c.loop.invariant))

pub loop-preserved : goal.loop-preserved
loop-preserved c =
    rw (c.in_ok-push.ensures.items, c.from-least.ensures)
    (goes_on (public_at c.args.labels) (λ _ p. p + 1) c.loop.publics.items c.loop.least c.args.count c.loop.counter c.loop.rest.now
    (many (public_at c.args.labels) (λ _ p. p + 1) 0 c.args.count c.args.bytes.now) c.in_ok-next.next c.in_ok-next.after.now c.loop-test.true c.in_ok-next.ensures c.loop.invariant)

pub returns : goal.returns
returns c =
    is_done (public_at c.args.labels) (λ _ p. p + 1) c.loop.publics.items c.loop.least c.args.count c.loop.counter c.loop.rest.now
    (many (public_at c.args.labels) (λ _ p. p + 1) 0 c.args.count c.args.bytes.now) c.loop-test.false c.loop.invariant
