use Rattle.std.proofs.Common.{◌≡◌, false, take}
use Rattle.z80dev_disk.specs.Along.{Along}
use Rattle.z80dev_disk.specs.Changes.{Marks}
use Rattle.z80dev_disk.proofs.changing.mark_all.Given as goal

abbrev pub invariant-loop-pattern : goal.invariant-loop-pattern
invariant-loop-pattern l = (l.disk.kind ≡ l.initial.disk.kind) × (l.disk.failed ≡ false) × Along (Marks l.initial.disk.kind l.user l.attribute l.on) (take l.pattern-index l.patterns) l.initial.disk.device l.disk.device
