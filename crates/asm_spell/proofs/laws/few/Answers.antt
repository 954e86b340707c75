use Rattle.asm_spell.proofs.Few.{few}
use Rattle.asm_spell.proofs.Named.{branches_short, names_short}
use Rattle.asm_spell.proofs.laws.few.Goals as goal

pub returns-clause-names : goal.returns-clause-names
returns-clause-names c = names_short c.scanned.ensures

pub returns-clause-targets : goal.returns-clause-targets
returns-clause-targets c = branches_short c.scanned.ensures c.parsed.ensures.is

pub returns-clause-data : goal.returns-clause-data
returns-clause-data c = few c.scanned.ensures
