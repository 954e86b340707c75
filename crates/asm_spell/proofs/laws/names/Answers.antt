use Rattle.asm_spell.proofs.Named.{names_defined, targets_defined}
use Rattle.asm_spell.proofs.laws.names.Goals as goal

pub returns-clause-defined : goal.returns-clause-defined
returns-clause-defined c = names_defined c.scanned.ensures

pub returns-clause-targets : goal.returns-clause-targets
returns-clause-targets c = targets_defined c.scanned.ensures c.parsed.ensures.is
