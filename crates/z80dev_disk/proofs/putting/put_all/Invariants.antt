use Rattle.std.proofs.Common.{◌≡◌, false, map, take}
use Rattle.z80dev_disk.specs.Along.{Along}
use Rattle.z80dev_disk.specs.Put.{PutsOne, named_file}
use Rattle.z80dev_disk.proofs.putting.put_all.Given as goal

abbrev pub invariant-loop-file : goal.invariant-loop-file
invariant-loop-file l = (l.disk.kind ≡ l.initial.disk.kind) × (l.disk.failed ≡ false) × Along (PutsOne l.initial.disk.kind l.user l.replace) (take l.file-index (map named_file l.files)) l.initial.disk.device l.disk.device
