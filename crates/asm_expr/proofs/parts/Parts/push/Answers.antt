use Rattle.std.proofs.Common.{◌<◌, ◌≤◌, length, ap, ◌∙◌, arith}
use Rattle.std.proofs.lemmas.List.{length-set}
use Rattle.asm_expr.specs.declared.parts.Cell.{Cell}
use Rattle.asm_expr.proofs.Opened.{put_behind, room_for, sound_put}
use Rattle.asm_expr.proofs.parts.Parts.push.Goals as goal

pub bounds-cells-at : goal.bounds-cells-at
bounds-cells-at c =
    room_for c.self.inside.cells c.self.inside.len c.args.self.now (omega (arith, c.self.invariant.0, c.self.invariant.1)) c.self.invariant.2 c.self.view_is 64 c.requires c.self.invariant.1

pub invariant_of-self : goal.invariant_of-self
invariant_of-self c =
    let lt : c.self.inside.len < length c.self.inside.cells =
    room_for c.self.inside.cells c.self.inside.len c.args.self.now (omega (arith, c.self.invariant.0, c.self.invariant.1)) c.self.invariant.2 c.self.view_is 64 c.requires c.self.invariant.1 in (
      omega (arith, lt, c.self.invariant.1),
      length-set c.self.inside.cells c.self.inside.len (Cell.Item c.args.item) ∙ c.self.invariant.1,
      sound_put c.self.inside.cells c.self.inside.len (Cell.Item c.args.item) lt c.self.invariant.2 tt,
    )

pub returns : goal.returns
returns c =
    let lt : c.self.inside.len < length c.self.inside.cells =
    room_for c.self.inside.cells c.self.inside.len c.args.self.now (omega (arith, c.self.invariant.0, c.self.invariant.1)) c.self.invariant.2 c.self.view_is 64 c.requires c.self.invariant.1 in
    put_behind c.self.inside.cells c.self.inside.len (Cell.Item c.args.item) c.args.self.now lt c.self.view_is
