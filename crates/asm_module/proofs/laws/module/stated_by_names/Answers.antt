use Rattle.asm_module.proofs.Modules.Alike.{faults_alike, statements_alike}
use Rattle.asm_module.proofs.laws.module.stated_by_names.Goals as goal

pub returns-clause-fault : goal.returns-clause-fault
returns-clause-fault c = λ t u names_same statements_same names layout lines. faults_alike c.by_names.ensures layout t u names_same statements_same names lines

pub returns-clause-statements : goal.returns-clause-statements
returns-clause-statements c = λ t u names_same statements_same grow layout lines. statements_alike c.by_names.ensures layout t u names_same statements_same grow lines
