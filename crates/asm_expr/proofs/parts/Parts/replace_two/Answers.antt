use Rattle.std.proofs.Common.{length, ◌-◌, ◌∙◌, arith}
use Rattle.std.proofs.lemmas.List.{length-set}
use Rattle.asm_parse.specs.declared.item.Item.{Item}
use Rattle.asm_expr.specs.declared.part.Part.{Part}
use Rattle.asm_expr.specs.declared.parts.Cell.{Cell}
use Rattle.asm_expr.proofs.Opened.{two_parts, two_put, two_put_sound}
use Rattle.asm_expr.proofs.parts.Parts.replace_two.Goals as goal

pub overflow_sub-at : goal.overflow_sub-at
overflow_sub-at c =
    let two = two_parts c.self.inside.cells c.self.inside.len c.args.self.now (omega (arith, c.self.invariant.0, c.self.invariant.1)) c.self.invariant.2 c.self.view_is (Cell.Item (Item.Leaf (Part.Number 0))) c.requires.some c.requires.right in
    omega (arith, two)

pub invariant_of-self : goal.invariant_of-self
invariant_of-self c = (
  omega (arith, c.self.invariant.0),
  length-set c.self.inside.cells ((c.self.inside.len - 1) - 1) (Cell.Item (Item.Leaf c.args.part)) ∙ c.self.invariant.1,
  two_put_sound c.self.inside.cells c.self.inside.len c.args.self.now (omega (arith, c.self.invariant.0, c.self.invariant.1)) c.self.invariant.2 c.self.view_is c.args.part
      (Cell.Item (Item.Leaf (Part.Number 0))) c.requires.some c.requires.right,
)

pub returns : goal.returns
returns c =
    two_put c.self.inside.cells c.self.inside.len c.args.self.now (omega (arith, c.self.invariant.0, c.self.invariant.1)) c.self.invariant.2 c.self.view_is c.args.part
    (Cell.Item (Item.Leaf (Part.Number 0))) c.requires.some c.requires.right c.requires.left
