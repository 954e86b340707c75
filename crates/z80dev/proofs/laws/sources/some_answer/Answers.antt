use Rattle.z80dev.proofs.Answered.{no_memory_inside, some_answer}
use Rattle.z80dev.proofs.laws.sources.some_answer.Goals as goal

pub returns-clause-some : goal.returns-clause-some
returns-clause-some c = some_answer c.scanned.ensures c.some_expansion.ensures.some c.some_expansion.ensures.alone

pub returns-clause-alone : goal.returns-clause-alone
returns-clause-alone c = no_memory_inside c.scanned.ensures c.some_expansion.ensures.some c.some_expansion.ensures.alone
