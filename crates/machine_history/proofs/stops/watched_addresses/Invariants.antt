use Rattle.std.proofs.Common.{◌≡◌, ◌++◌, drop}
use Rattle.machine_history.specs.Stops.{watched_addresses}
use Rattle.machine_history.proofs.stops.watched_addresses.Given as goal

abbrev pub invariant-loop-watch : goal.invariant-loop-watch
invariant-loop-watch l = l.found.items ++ watched_addresses (drop l.watch-index l.watches) ≡ watched_addresses l.watches
