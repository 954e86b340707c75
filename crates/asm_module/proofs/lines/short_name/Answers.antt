use Rattle.std.proofs.Common.{◌∙◌, ap, take}
use Rattle.asm_module.proofs.lines.short_name.Goals as goal

pub returns : goal.returns
returns c = c.truncate.ensures.items ∙ ap (take 255) (c.in_ok-short.ensures.items_if_clones_equal (λ x y e. e))
