use Rattle.std.proofs.Common.{◌+◌}
use Rattle.std.proofs.lemmas.Result.{err_from_is_err_and}
use Rattle.zmo_object.specs.Holes.{width_size}
use Rattle.zmo_object.specs.Fields.Field.{many}
use Rattle.zmo_object.proofs.Fields.Many.{ends, goes_on, is_done}
use Rattle.zmo_object.specs.Reading.{hole_at}
use Rattle.zmo_object.proofs.hole.holes.Goals as goal

pub returns-in_err-next : goal.returns-in_err-next
returns-in_err-next c =
    let p = err_from_is_err_and c.from_residual-in_err-next.result c.from_residual-in_err-next.ensures.1 in
    rw (p.1, p.2) (ends (hole_at c.args.refs c.args.content.now) (λ _ h. h.offset + width_size h.width)
    c.loop.holes.items c.loop.from c.args.count c.loop.counter c.loop.rest.now
    (many (hole_at c.args.refs c.args.content.now) (λ _ h. h.offset + width_size h.width) 0 c.args.count c.args.bytes.now) c.in_err-next.field-0.0 c.loop-test.true c.in_err-next.ensures c.loop.invariant)

pub loop-preserved : goal.loop-preserved
loop-preserved c =
    rw (c.in_ok-push.ensures.items, c.size_of.ensures)
    (goes_on (hole_at c.args.refs c.args.content.now) (λ _ h. h.offset + width_size h.width) c.loop.holes.items c.loop.from c.args.count c.loop.counter c.loop.rest.now
    (many (hole_at c.args.refs c.args.content.now) (λ _ h. h.offset + width_size h.width) 0 c.args.count c.args.bytes.now) c.in_ok-next.next c.in_ok-next.after.now c.loop-test.true c.in_ok-next.ensures c.loop.invariant)

pub returns : goal.returns
returns c =
    is_done (hole_at c.args.refs c.args.content.now) (λ _ h. h.offset + width_size h.width) c.loop.holes.items c.loop.from c.args.count c.loop.counter c.loop.rest.now
    (many (hole_at c.args.refs c.args.content.now) (λ _ h. h.offset + width_size h.width) 0 c.args.count c.args.bytes.now) c.loop-test.false c.loop.invariant
