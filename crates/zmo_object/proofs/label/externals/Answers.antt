use Rattle.std.proofs.Common.{map}
use Rattle.std.proofs.lemmas.List.{map_push}
use Rattle.std.proofs.lemmas.Result.{err_from_is_err_and}
use Rattle.zmo_object.specs.Fields.Field.{many}
use Rattle.zmo_object.proofs.Fields.Many.{ends, goes_on, is_done}
use Rattle.zmo_object.specs.Reading.{name_at, with_further_name}
use Rattle.zmo_object.proofs.label.externals.Goals as goal

pub returns-in_err-next : goal.returns-in_err-next
returns-in_err-next c =
    let p = err_from_is_err_and c.from_residual-in_err-next.result c.from_residual-in_err-next.ensures.1 in
    rw (p.1, p.2) (ends name_at with_further_name (map (λ name. name.items) c.loop.externals.items) c.loop.names c.args.count c.loop.counter c.loop.rest.now
    (many name_at with_further_name c.args.names.now c.args.count c.args.bytes.now) c.in_err-next.field-0.0 c.loop-test.true c.in_err-next.ensures c.loop.invariant)

pub loop-preserved : goal.loop-preserved
loop-preserved c =
    let whole = many name_at with_further_name c.args.names.now c.args.count c.args.bytes.now in
    let next = goes_on name_at with_further_name (map (λ name. name.items) c.loop.externals.items) c.loop.names c.args.count c.loop.counter c.loop.rest.now whole
    c.in_ok-next.next.now c.in_ok-next.after.now c.loop-test.true c.in_ok-next.ensures.0 c.loop.invariant in
    rw (c.in_ok-push.ensures.items, map_push, c.in_ok-name.ensures.items, c.in_ok-next.ensures.1) next

pub returns : goal.returns
returns c =
    is_done name_at with_further_name (map (λ name. name.items) c.loop.externals.items) c.loop.names c.args.count c.loop.counter c.loop.rest.now
    (many name_at with_further_name c.args.names.now c.args.count c.args.bytes.now) c.loop-test.false c.loop.invariant
