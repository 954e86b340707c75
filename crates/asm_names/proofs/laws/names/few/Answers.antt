use Rattle.asm_names.proofs.Few.{few_names, few_statements}
use Rattle.asm_names.proofs.laws.names.few.Goals as goal

pub returns-clause-names : goal.returns-clause-names
returns-clause-names c = few_names

pub returns-clause-statements : goal.returns-clause-statements
returns-clause-statements c = few_statements
