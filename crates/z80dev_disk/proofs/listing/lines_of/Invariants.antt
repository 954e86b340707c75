use Rattle.std.proofs.Common.{◌≡◌, take}
use Rattle.std.specs.List.{flat_map}
use Rattle.z80dev_disk.specs.Dir.{dir_line}
use Rattle.z80dev_disk.proofs.listing.lines_of.Given as goal

abbrev pub invariant-loop-file : goal.invariant-loop-file
invariant-loop-file l = l.lines.items ≡ flat_map (dir_line l.long l.disk.kind l.disk.device) (take l.file-index l.files)
