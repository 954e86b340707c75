use Rattle.std.proofs.Common.{◌≡◌, ◌≤◌, ◌++◌, drop, length, take}
use Rattle.z80dev_disk.specs.Words.{last_part}
use Rattle.z80dev_disk.proofs.name.last_part.Given as goal

abbrev pub invariant-loop-start : goal.invariant-loop-start
invariant-loop-start l = (l.start ≤ length l.path) × (last_part l.path ≡ last_part (take l.start l.path) ++ drop l.start l.path)

abbrev pub decreases-loop-start : goal.decreases-loop-start
decreases-loop-start l = l.start
