use Rattle.std.proofs.Common.{rules, ◌≡◌, length}
use Rattle.std.specs.Vec.{vec_len}
use Rattle.asm_names.proofs.Orders.Frames.{lower_last}
use Rattle.asm_names.proofs.walk.Walk.lower.Goals as goal

pub returns-in-Some-clause-frames : goal.returns-in-Some-clause-frames
returns-in-Some-clause-frames c =
    let len : vec_len c.args.self.now.frames ≡ length c.args.self.now.frames.items = search rules in
    lower_last c.args.self.now.frames.items c.in-Some.top.now c.args.place c.min-top.result (vec_len c.args.self.now.frames) c.in-Some.ensures.item.3.0 len c.in-Some.ensures.value c.min-top.ensures
