use Rattle.asm_macro.specs.Expands.{Stopped}
use Rattle.z80dev.proofs.Causes.{has_cause, not_memory}
use Rattle.z80dev.proofs.Total.{some_expansion}
use Rattle.z80dev.proofs.laws.sources.some_expansion.Goals as goal

pub returns-clause-some : goal.returns-clause-some
returns-clause-some c = some_expansion c.parts.ensures.line c.parts.ensures.text

pub returns-clause-caused : goal.returns-clause-caused
returns-clause-caused c = λ text lines number why is. not_memory why (has_cause c.scanned.ensures c.parts.ensures.line c.parts.ensures.onward text lines (Stopped number why) is)

pub returns-clause-alone : goal.returns-clause-alone
returns-clause-alone c = λ text lines number why is. has_cause c.scanned.ensures c.parts.ensures.line c.parts.ensures.onward text lines (Stopped number why) is
