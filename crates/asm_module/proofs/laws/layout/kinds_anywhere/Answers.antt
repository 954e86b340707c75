use Rattle.std.specs.Prelude.{suc, length}
use Rattle.asm_module.proofs.Layouts.SameKinds.{like_after}
use Rattle.asm_module.proofs.laws.layout.kinds_anywhere.Goals as goal

pub returns : goal.returns
returns c = λ names lines circle layout other at there.
    like_after (record { names = c.by_names.ensures.equated; anywhere = c.constant_anywhere.ensures.equated }) names lines circle layout other (suc (length lines)) at there
