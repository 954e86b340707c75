use Rattle.std.proofs.Common.{rules, sym, arith}
use Rattle.std.proofs.lemmas.Option.{slice_get_within}
use Rattle.asm_names.specs.Layout.{layout_of}
use Rattle.asm_names.proofs.Placing.{all_placed, few_so_far, goes_on, is_new_place}
use Rattle.asm_names.proofs.places.places_of.Goals as goal

pub define-requires-clause-new : goal.define-requires-clause-new
define-requires-clause-new c =
    is_new_place c.args.table.now (layout_of c.args.layout.now) c.loop-name.at (c.in-Some.name.now, c.in-Some.kind) c.loop-name.places c.requires.distinct c.in-Some.ensures c.loop-name.invariant

pub define-requires-clause-few : goal.define-requires-clause-few
define-requires-clause-few c =
    few_so_far c.args.table.now (layout_of c.args.layout.now) c.loop-name.at (c.in-Some.name.now, c.in-Some.kind) c.loop-name.places c.in-Some.ensures c.requires.few c.loop-name.invariant

pub overflow_add-at : goal.overflow_add-at
overflow_add-at c =
    let lt = slice_get_within c.args.table.now c.loop-name.at (c.in-Some.name.now, c.in-Some.kind) (sym c.in-Some.ensures) in
    let few = c.requires.few in
    search rules

pub loop-name-smaller : goal.loop-name-smaller
loop-name-smaller c =
    let lt = slice_get_within c.args.table.now c.loop-name.at (c.in-Some.name.now, c.in-Some.kind) (sym c.in-Some.ensures) in
    omega (arith, lt)

pub loop-name-preserved : goal.loop-name-preserved
loop-name-preserved c =
    goes_on c.args.table.now (layout_of c.args.layout.now) c.loop-name.at c.in-Some.name.now c.in-Some.kind c.loop-name.places c.define.new.self c.requires.distinct c.in-Some.ensures
    c.in_ok-define.ensures c.loop-name.invariant

pub returns : goal.returns
returns c = all_placed c.args.table.now (layout_of c.args.layout.now) c.loop-name.at c.loop-name.places c.in_default.ensures c.loop-name.invariant
