use Rattle.std.proofs.Common.{◌-◌, ◌++◌, refl, ap, ◌∙◌}
use Rattle.z80_form.specs.Numbers.{with_number}
use Rattle.asm_stmt.specs.Cells.{hole}
use Rattle.zmo_object.specs.Holes.{width_size}
use Rattle.asm_stmt.proofs.Coding.{one_more}
use Rattle.asm_stmt.proofs.code.Coded.put.Goals as goal

pub returns : goal.returns
returns c = λ instr numbers s. one_more instr numbers c.args.field c.args.filling c.args.self.now _ s refl
    (c.with_number-self.ensures.number ∙ ap (λ n. with_number c.args.field n c.args.self.now.instr) c.number_or_0.ensures)
    (c.in_ok-put_hole.ensures
    ∙ ap (λ n. c.args.self.now.holes.items ++ hole n c.width_of-width.result c.args.filling) (c.saturating_sub-offset.ensures ∙ ap (λ n. c.args.self.now.size - n) c.size_of.ensures)
    ∙ ap (λ w. c.args.self.now.holes.items ++ hole (c.args.self.now.size - width_size w) w c.args.filling) c.width_of-width.ensures)
    c.still_told-self.ensures
