use Rattle.z80dev.proofs.Grown.{grown_are_needed}
use Rattle.z80dev.proofs.laws.sources.grown_are_needed.Goals as goal

pub returns : goal.returns
returns c = grown_are_needed
