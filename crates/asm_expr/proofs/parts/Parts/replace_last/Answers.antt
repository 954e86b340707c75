use Rattle.std.proofs.Common.{length, arith}
use Rattle.asm_parse.specs.declared.item.Item.{Item}
use Rattle.asm_expr.specs.declared.part.Part.{Part}
use Rattle.asm_expr.specs.declared.parts.Cell.{Cell}
use Rattle.asm_expr.proofs.Opened.{last_put}
use Rattle.asm_expr.proofs.parts.Parts.replace_last.Goals as goal

pub returns : goal.returns
returns c =
    last_put c.self.inside.cells c.self.inside.len c.args.self.now (omega (arith, c.self.invariant.0, c.self.invariant.1)) c.self.invariant.2 c.self.view_is c.args.part (Cell.Item (Item.Leaf (Part.Number 0))) c.requires.some c.requires.leaf
