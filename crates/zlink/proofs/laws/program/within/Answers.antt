use Rattle.zlink.proofs.Programs.Sound.{few, within}
use Rattle.zlink.proofs.laws.program.within.Goals as goal

pub returns-clause-few : goal.returns-clause-few
returns-clause-few c = few

pub returns-clause-each : goal.returns-clause-each
returns-clause-each c = λ modules all none. within modules all
