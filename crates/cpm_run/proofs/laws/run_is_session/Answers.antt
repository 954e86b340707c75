use Rattle.cpm_run.proofs.TypedBefore.{run_is_session}
use Rattle.cpm_run.proofs.laws.run_is_session.Goals as goal

pub returns : goal.returns
returns g c = λ cpu memory disk typed limit turns end new ends. run_is_session g.S.Sectors.sectors g.S.Sectors.faults cpu memory disk typed limit turns end new ends
