use Rattle.z80_form.proofs.laws.complete.Goals as goal
use Rattle.z80_form.proofs.Numbers.{complete}

pub returns : goal.returns
returns c = complete
