use Rattle.std.proofs.Common.{◌≡◌, map, take}
use Rattle.z80dev_disk.specs.Get.{gotten, host_file}
use Rattle.z80dev_disk.proofs.getting.files_for_host.Given as goal

abbrev pub invariant-loop-file : goal.invariant-loop-file
invariant-loop-file l = (l.disk ≡ l.initial.disk) × (map host_file l.made.items ≡ map (gotten l.text l.initial.disk.kind l.initial.disk.device) (take l.file-index l.files))
