use Rattle.asm_names.proofs.Refs.{refs_below}
use Rattle.asm_names.proofs.laws.meanings.refs.Goals as goal

pub returns : goal.returns
returns c = refs_below c.no_other_refs.ensures.equated
