use Rattle.std.proofs.Common.{◌-◌, get_or, length, sym, ap, ◌∙◌, arith}
use Rattle.asm_parse.specs.declared.item.Item.{Item}
use Rattle.asm_expr.specs.declared.part.Part.{Part}
use Rattle.asm_expr.specs.declared.parts.Cell.{Cell}
use Rattle.asm_expr.specs.Private.Cells.{opened}
use Rattle.asm_expr.proofs.Opened.{before_last_of_all, two_parts}
use Rattle.asm_expr.proofs.parts.Parts.before_last.Goals as goal

pub returns-then-self-lt2 : goal.returns-then-self-lt2
returns-then-self-lt2 c = λ ends.
    let two = two_parts c.self.inside.cells c.self.inside.len c.args.self.now (omega (arith, c.self.invariant.0, c.self.invariant.1)) c.self.invariant.2 c.self.view_is (Cell.Item (Item.Leaf (Part.Number 0))) c.requires ends in
    absurd (omega (arith, two, c.if-self-lt2.true))

pub returns : goal.returns
returns c = λ ends.
    let i = c.index-cells-self.is in
    c.last_of.ensures ∙ ap (λ x. get_or (opened x) (length (opened x) - 1) c.last_of.result) i
    ∙ sym (before_last_of_all c.self.inside.cells c.self.inside.len c.args.self.now (omega (arith, c.self.invariant.0, c.self.invariant.1)) c.self.invariant.2 c.self.view_is c.index-cells-self.result c.last_of.result c.requires ends)
