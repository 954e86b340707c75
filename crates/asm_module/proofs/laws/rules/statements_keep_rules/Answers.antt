use Rattle.asm_module.proofs.Rules.Statements.{Laws, statements_kept}
use Rattle.asm_module.proofs.laws.rules.statements_keep_rules.Goals as goal

pub returns : goal.returns
returns c = λ grow t layout lines refs.
    let laws : Laws = record { keeps = c.pieces_keep_rules.ensures; few = c.few.ensures } in
    statements_kept laws grow refs t layout lines
