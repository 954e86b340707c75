use Rattle.std.proofs.Common.{◌≡◌, drop}
use Rattle.std.specs.Prelude.{find}
use Rattle.machine_history.specs.Stops.{breaks}
use Rattle.machine_history.proofs.stops.broken.Given as goal

abbrev pub invariant-loop-breakpoint : goal.invariant-loop-breakpoint
invariant-loop-breakpoint l = find (breaks l.cpu) (drop l.breakpoint-index l.breakpoints) ≡ find (breaks l.cpu) l.breakpoints
