use Rattle.asm_names.proofs.Distinct.{distinct_names}
use Rattle.asm_names.proofs.laws.names.distinct.Goals as goal

pub returns : goal.returns
returns c = distinct_names
