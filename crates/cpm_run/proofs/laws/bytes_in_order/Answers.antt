use Rattle.cpm_run.proofs.Ordered.{bytes_in_order}
use Rattle.cpm_run.proofs.laws.bytes_in_order.Goals as goal

pub returns : goal.returns
returns g c = λ file words disk left limit turns pc before after end arrivals played.
    bytes_in_order g.S.Sectors.sectors g.S.Sectors.faults file words disk left limit turns pc before after end arrivals played
