use Rattle.asm_module.proofs.Layouts.Laying.{lines_laid}
use Rattle.asm_module.proofs.laws.layout.stated_as_laid.Goals as goal
use Rattle.asm_module.specs.Module.Stated.{table_at_line}

pub returns : goal.returns
returns c = λ grow names t u layout lines like there values known.
    lines_laid (record { piece = c.sizes.ensures.piece; nothing = c.sizes.ensures.nothing; like = c.sizes.ensures.like }) c.number_of_numbers.ensures grow names t u layout like there
    (λ at e is s settles. c.valued.ensures (table_at_line layout t at) e is known s settles) values lines
