use Rattle.asm_stmt.proofs.ByNames.{same_made}
use Rattle.asm_stmt.proofs.laws.by_names.Goals as goal

pub returns : goal.returns
returns c = λ t u b names here statements. same_made c.by_names.ensures.settled c.by_names.ensures.constant c.by_names.ensures.offset t u (record { names = names; here = here; statements = statements }) b
