-- Runs that nothing from outside ends.
use Rattle.std.specs.Prelude.{◌≢◌}
use Rattle.cpm_disk.specs.declared.control.stop.Stop.TheVariants as stop
use Rattle.cpm_run.specs.declared.arriving.PlayEnd.{PlayEnd}
use Rattle.cpm_run.specs.declared.arriving.PlayEnd.TheVariants as play
use Rattle.cpm_run.specs.declared.ending.Why.{Why}
use Rattle.cpm_run.specs.declared.ending.Why.TheVariants as why

-- A run did not end because memory ran out, or because the disk or the console failed.
pub record IsUndisturbed (end : Why) : Type 0 where
  pub memory : end ≢ why.NoMemory
  pub disk : end ≢ why.Stopped stop.DiskFault
  pub console : end ≢ why.Stopped stop.ConsoleFault

-- A session ended with such a run, or because the person left.
abbrev pub EndsUndisturbed : PlayEnd → Type 0
EndsUndisturbed (play.Run end) = IsUndisturbed end
EndsUndisturbed play.Left = Unit {0}
EndsUndisturbed _ = ⊥
