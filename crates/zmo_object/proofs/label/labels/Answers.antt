use Rattle.std.proofs.Common.{◌∷◌, [], map, append_assoc}
use Rattle.std.proofs.lemmas.List.{map_push}
use Rattle.std.proofs.lemmas.Result.{err_from_is_err_and}
use Rattle.zmo_object.specs.Modules.{label_of}
use Rattle.zmo_object.specs.Fields.Field.{many}
use Rattle.zmo_object.proofs.Fields.Many.{ends, goes_on, is_done}
use Rattle.zmo_object.specs.Reading.{label_field, with_label}
use Rattle.zmo_object.proofs.label.labels.Goals as goal

pub returns-in_err-next-clause-read : goal.returns-in_err-next-clause-read
returns-in_err-next-clause-read c =
    let p = err_from_is_err_and c.from_residual-in_err-next.result c.from_residual-in_err-next.ensures.1 in
    rw (p.1, p.2) (ends (label_field c.args.statements) with_label (map label_of c.loop.labels.items) c.loop.names c.args.count c.loop.counter c.loop.rest.now
    (many (label_field c.args.statements) with_label c.args.names.now c.args.count c.args.bytes.now) c.in_err-next.field-0.0 c.loop-test.true c.in_err-next.ensures c.loop.invariant.read)

pub loop-preserved : goal.loop-preserved
loop-preserved c =
    let whole = many (label_field c.args.statements) with_label c.args.names.now c.args.count c.args.bytes.now in
    let next = goes_on (label_field c.args.statements) with_label (map label_of c.loop.labels.items) c.loop.names c.args.count c.loop.counter c.loop.rest.now whole
    (label_of c.in_ok-next.next) c.in_ok-next.after.now c.loop-test.true c.in_ok-next.ensures.0 c.loop.invariant.read in
    record {
      read = rw (c.in_ok-push.ensures.items, map_push, c.in_ok-next.ensures.1) next;
      named = rw (c.in_ok-push.ensures.items, map_push, map_push, c.in_ok-next.ensures.1, c.loop.invariant.named) (append_assoc c.args.names.now (map (λ x. x.name) (map label_of c.loop.labels.items)) (c.in_ok-next.next.name.items ∷ []));
    }

pub returns-clause-read : goal.returns-clause-read
returns-clause-read c =
    is_done (label_field c.args.statements) with_label (map label_of c.loop.labels.items) c.loop.names c.args.count c.loop.counter c.loop.rest.now
    (many (label_field c.args.statements) with_label c.args.names.now c.args.count c.args.bytes.now) c.loop-test.false c.loop.invariant.read
