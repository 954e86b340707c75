use Rattle.std.proofs.Common.{rules, ◌≡◌, ◌<◌, ◌∙◌, reverse, length, arith}
use Rattle.asm_names.proofs.Orders.Drained.{draining_of, circles_of}
use Rattle.asm_names.proofs.walk.Walk.close.Goals as goal

pub close_circle-requires-clause-draining : goal.close_circle-requires-clause-draining
close_circle-requires-clause-draining c = draining_of c.args.uses.now c.args.start _ _ _ _ _ c.requires.stands c.requires.finished

pub close_circle-requires-clause-circle : goal.close_circle-requires-clause-circle
close_circle-requires-clause-circle c =
    let len : c.len.result ≡ length c.args.self.now.path.items = search rules in
    circles_of c.args.uses.now c.args.start _ _ _ _ _ c.requires.stands (let room = c.requires.stands.framed.0 in let ne = c.if-len-start.false in omega arith)
