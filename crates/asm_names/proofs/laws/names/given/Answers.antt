use Rattle.asm_names.proofs.Given.{line_given, names_given}
use Rattle.asm_names.proofs.laws.names.given.Goals as goal

pub returns-clause-by : goal.returns-clause-by
returns-clause-by c = names_given

pub returns-clause-each : goal.returns-clause-each
returns-clause-each c = line_given
