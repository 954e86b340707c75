use Rattle.std.proofs.Common.{◌≡◌, map, take}
use Rattle.z80dev_disk.specs.Text.{cpm_text}
use Rattle.z80dev.proofs.disks.changing.all_as_put.Given as goal

abbrev pub invariant-loop-file : goal.invariant-loop-file
invariant-loop-file l = map (λ bytes. bytes.items) l.all.items ≡ take l.file-index (map (λ file. cpm_text file.items) l.file-items)
