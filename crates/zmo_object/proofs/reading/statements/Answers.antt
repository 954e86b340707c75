use Rattle.std.proofs.Common.{ℕ, map}
use Rattle.std.proofs.lemmas.List.{map_push}
use Rattle.std.proofs.lemmas.Result.{err_from_is_err_and}
use Rattle.zmo_object.specs.Modules.{statement_of}
use Rattle.zmo_object.specs.Fields.Field.{each_field}
use Rattle.zmo_object.proofs.Fields.Many.{ends, goes_on, is_done}
use Rattle.zmo_object.specs.Reading.{statement_at}
use Rattle.zmo_object.proofs.reading.statements.Goals as goal

pub returns-in_err-next : goal.returns-in_err-next
returns-in_err-next c =
    let p = err_from_is_err_and c.from_residual-in_err-next.result c.from_residual-in_err-next.ensures.1 in
    rw (p.1, p.2) (ends (λ (none : ℕ). statement_at c.args.grow c.args.refs) (λ none _. none)
    (map statement_of c.loop.statements.items) 0 c.args.count c.loop.counter c.loop.rest.now (each_field (statement_at c.args.grow c.args.refs) c.args.count c.args.bytes.now)
    c.in_err-next.field-0.0 c.loop-test.true c.in_err-next.ensures c.loop.invariant)

pub loop-preserved : goal.loop-preserved
loop-preserved c =
    rw (c.in_ok-push.ensures.items, map_push)
    (goes_on (λ (none : ℕ). statement_at c.args.grow c.args.refs) (λ none _. none) (map statement_of c.loop.statements.items) 0 c.args.count c.loop.counter c.loop.rest.now
    (each_field (statement_at c.args.grow c.args.refs) c.args.count c.args.bytes.now) (statement_of c.in_ok-next.next) c.in_ok-next.after.now c.loop-test.true c.in_ok-next.ensures c.loop.invariant)

pub returns : goal.returns
returns c =
    is_done (λ (none : ℕ). statement_at c.args.grow c.args.refs) (λ none _. none) (map statement_of c.loop.statements.items) 0 c.args.count c.loop.counter c.loop.rest.now
    (each_field (statement_at c.args.grow c.args.refs) c.args.count c.args.bytes.now) c.loop-test.false c.loop.invariant
