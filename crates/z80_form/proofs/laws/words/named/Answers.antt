use Rattle.z80_form.proofs.laws.words.named.Goals as goal
use Rattle.z80_form.proofs.Words.Lookup.{mnemonic_spelled, name_spelled}

pub returns-clause-mnemonic : goal.returns-clause-mnemonic
returns-clause-mnemonic c = mnemonic_spelled

pub returns-clause-name : goal.returns-clause-name
returns-clause-name c = name_spelled
