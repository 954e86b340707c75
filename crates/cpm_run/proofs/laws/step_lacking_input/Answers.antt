use Rattle.std.proofs.Common.{Some, refl}
use Rattle.cpm_disk.specs.declared.control.stop.Stop.TheVariants as stop
use Rattle.cpm_run.specs.declared.ending.Why.TheVariants as why
use Rattle.cpm_run.proofs.Lacked.{lacked}
use Rattle.cpm_run.proofs.Lacking.{lacking}
use Rattle.cpm_run.proofs.laws.step_lacking_input.Goals as goal

pub returns-clause-stops : goal.returns-clause-stops
returns-clause-stops g c = λ old new end lacks turn. lacking g.S.Sectors.sectors g.S.Sectors.faults old new end lacks turn

pub returns-clause-only : goal.returns-clause-only
returns-clause-only g c = λ old new turn. lacked g.S.Sectors.sectors g.S.Sectors.faults old new (Some (why.Stopped stop.EndOfInput)) refl turn
