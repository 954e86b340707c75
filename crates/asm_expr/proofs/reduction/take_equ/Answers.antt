use Rattle.std.proofs.Common.{◌≤◌, ◌+◌, length, map, ap, ◌∙◌, arith, length-append}
use Rattle.std.proofs.lemmas.List.{length-map}
use Rattle.asm_expr.specs.Names.{item_count}
use Rattle.asm_expr.specs.Settling.{known_item}
use Rattle.asm_expr.proofs.Again.{left_pushed, same_settled}
use Rattle.asm_expr.proofs.reduction.take_equ.Goals as goal

pub push_list-requires-clause-room : goal.push_list-requires-clause-room
push_list-requires-clause-room c =
    let is = same_settled c.args.names.now c.args.name.now c.args.equated.now _ c.requires.known c.in-Some.ensures.0 in
    omega (arith, c.requires.room, ap item_count is, c.in-Some.ensures.1)

pub push_list-requires-clause-operation : goal.push_list-requires-clause-operation
push_list-requires-clause-operation c = (c.in-Some.ensures.0.left.expr, c.in-Some.ensures.1)

pub returns-in-Some-clause-most : goal.returns-in-Some-clause-most
returns-in-Some-clause-most c =
    let is = same_settled c.args.names.now c.args.name.now c.args.equated.now _ c.requires.known c.in-Some.ensures.0 in
    let list = c.in-Some.list.now.value.items in
    omega (arith, ap length c.push_list.ensures, ap item_count is, length-map list known_item, length-append c.args.out.now (map known_item list))

pub returns-in-Some-clause-folds : goal.returns-in-Some-clause-folds
returns-in-Some-clause-folds c =
    let is = same_settled c.args.names.now c.args.name.now c.args.equated.now _ c.requires.known c.in-Some.ensures.0 in
    left_pushed c.args.names.now c.args.equated.now.settled _ c.args.out.now c.push_list.new.self is c.in-Some.ensures.0.left c.push_list.ensures
