use Rattle.cpm_run.proofs.OneRun.{one_run}
use Rattle.cpm_run.proofs.laws.one_run.Goals as goal

pub returns : goal.returns
returns g c = λ file words disk other left there console second kept held limit turns steps pc address end cause disks same calm quiet one two.
    one_run g.S.Sectors.sectors g.S.Sectors.faults g.C.Console.dialog c.one_turn.ensures file words disk other left there console second kept held limit turns steps pc address end cause disks same calm quiet one two
