use Rattle.std.proofs.Common.{◌≡◌, ◌≤◌, length, take}
use Rattle.z80dev_disk.specs.Names.{trimmed}
use Rattle.z80dev_disk.proofs.shown.trimmed.Given as goal

abbrev pub invariant-loop-end : goal.invariant-loop-end
invariant-loop-end l = (l.end ≤ length l.part) × (trimmed l.part ≡ trimmed (take l.end l.part))

abbrev pub decreases-loop-end : goal.decreases-loop-end
decreases-loop-end l = l.end
