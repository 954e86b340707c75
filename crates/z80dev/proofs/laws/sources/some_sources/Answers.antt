use Rattle.z80dev.proofs.Sources.{some_sources}
use Rattle.z80dev.proofs.laws.sources.some_sources.Goals as goal

pub returns : goal.returns
returns c = some_sources c.some_answer.ensures.some
