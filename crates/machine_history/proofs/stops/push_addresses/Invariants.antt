use Rattle.std.proofs.Common.{◌≡◌, ◌++◌}
use Rattle.machine_history.specs.Stops.{addresses}
use Rattle.machine_history.proofs.stops.push_addresses.Given as goal

abbrev pub invariant-loop-offset : goal.invariant-loop-offset
invariant-loop-offset l = l.found.items ≡ l.initial.found.items ++ addresses (record { from = l.watch.from; count = l.offset })
