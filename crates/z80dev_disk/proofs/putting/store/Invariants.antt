use Rattle.std.proofs.Common.{length}
use Rattle.z80dev_disk.proofs.On_the_way.{Putting}
use Rattle.z80dev_disk.proofs.putting.store.Given as goal

abbrev pub invariant-loop-piece : goal.invariant-loop-piece
invariant-loop-piece l = Putting l.fn.disk l.user l.name l.file l.disk l.number l.rest

abbrev pub decreases-loop-piece : goal.decreases-loop-piece
decreases-loop-piece l = length l.rest
