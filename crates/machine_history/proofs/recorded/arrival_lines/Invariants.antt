use Rattle.std.proofs.Common.{◌≡◌, take}
use Rattle.machine_history.specs.Recorded.{arrival_line}
use Rattle.std.specs.List.{flat_map}
use Rattle.machine_history.proofs.recorded.arrival_lines.Given as goal

abbrev pub invariant-loop-arrival : goal.invariant-loop-arrival
invariant-loop-arrival l = l.text.items ≡ flat_map arrival_line (take l.arrival-index l.arrivals)
