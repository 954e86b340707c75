use Rattle.cpm_run.proofs.Again.{replayed_alike}
use Rattle.cpm_run.proofs.laws.replayed_alike.Goals as goal

pub returns : goal.returns
returns g c = λ file words disk other left there limit turns steps pc address before after seat screen end cause arrivals came disks calm quiet played again.
    replayed_alike g.S.Sectors.sectors g.S.Sectors.faults c.one_turn.ensures file words disk other left there limit turns steps pc address before after seat screen end cause arrivals came disks calm quiet played again
