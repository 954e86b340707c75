use Rattle.std.proofs.Common.{◌≡◌}
use Rattle.z80dev_disk.specs.Get.{copied_below}
use Rattle.z80dev_disk.proofs.getting.copied_below.Given as goal

abbrev pub invariant-loop-number : goal.invariant-loop-number
invariant-loop-number l = (l.disk ≡ l.initial.disk) × (l.bytes.items ≡ copied_below l.initial.disk.kind l.initial.disk.device l.user l.name l.number)
