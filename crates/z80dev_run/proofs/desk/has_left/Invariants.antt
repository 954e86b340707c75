use Rattle.std.proofs.Common.{◌≡◌, drop}
use Rattle.z80dev_run.specs.Desk.{has_left}
use Rattle.z80dev_run.proofs.desk.has_left.Given as goal

abbrev pub invariant-loop-byte : goal.invariant-loop-byte
invariant-loop-byte l = has_left l.was (drop l.byte-index l.bytes) ≡ has_left l.is_leaving l.bytes
