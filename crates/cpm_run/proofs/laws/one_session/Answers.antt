use Rattle.cpm_run.proofs.OneSession.{at_end, between}
use Rattle.cpm_run.proofs.laws.one_session.Goals as goal

pub returns-clause-between : goal.returns-clause-between
returns-clause-between g c = λ cpu memory disk other a b disks one two arrivals turns.
    between g.S.Sectors.sectors g.S.Sectors.faults c.one_turn.ensures cpu memory disk other disks a b one two arrivals turns

pub returns-clause-at_end : goal.returns-clause-at_end
returns-clause-at_end g c = λ cpu memory disk other a b end cause disks calm quiet one two arrivals turns.
    at_end g.S.Sectors.sectors g.S.Sectors.faults c.one_turn.ensures cpu memory disk other disks a b end cause calm quiet one two arrivals turns
