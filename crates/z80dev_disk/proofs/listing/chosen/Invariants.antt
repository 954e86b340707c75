use Rattle.std.proofs.Common.{◌≡◌, filter, take}
use Rattle.z80dev_disk.specs.Dir.{is_asked}
use Rattle.z80dev_disk.proofs.listing.chosen.Given as goal

abbrev pub invariant-loop-file : goal.invariant-loop-file
invariant-loop-file l = l.chosen.items ≡ filter (is_asked l.user l.pattern) (take l.file-index l.files)
