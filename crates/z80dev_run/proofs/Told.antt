-- How the line of a run that stopped is written.
use Rattle.std.proofs.Common.{◌≢◌, ℕ, refl}
use Rattle.host.specs.Streams.Stream.{Stream}
use Rattle.cpm_run.specs.declared.ending.Why.{Why}
use Rattle.z80dev_run.specs.Ending.{Concludes, TellsStop}

pub concluded : (end : Why) (pc : ℕ) (old new : Stream) → end ≢ Why.Finished → TellsStop end pc old new → Concludes end pc old new 1
concluded Why.Finished pc old new other tells = absurd (other refl)
concluded end pc old new other tells = (refl, tells)
