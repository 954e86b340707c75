use Rattle.asm_module.specs.Module.Stated.{table_at_line}
use Rattle.asm_module.proofs.Program.Placing.{lines_at}
use Rattle.asm_module.proofs.laws.program.statements_at_places.Goals as goal

pub returns : goal.returns
returns c = λ grow names t layout lines there values known read none sizes_are.
    lines_at (record { piece = c.pieces_at_places.ensures.piece; nothing = c.pieces_at_places.ensures.nothing }) c.number_of_numbers.ensures grow names t layout there
    (λ at e is s settles. c.valued.ensures (table_at_line layout t at) e is known s settles) values lines sizes_are read none
