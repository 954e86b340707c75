use Rattle.std.proofs.Common.{◌≡◌, take}
use Rattle.std.specs.List.{flat_map}
use Rattle.z80dev_disk.specs.Check.{broken_line}
use Rattle.z80dev_disk.proofs.checking.broken_lines.Given as goal

abbrev pub invariant-loop-entry : goal.invariant-loop-entry
invariant-loop-entry l = l.lines.items ≡ flat_map broken_line (take l.entry-index l.broken)
