use Rattle.std.proofs.Common.{◌≡◌, ◌++◌, length}
use Rattle.z80dev_run.specs.Input.{typed}
use Rattle.z80dev_run.proofs.input.typed.Given as goal

abbrev pub invariant-loop-byte : goal.invariant-loop-byte
invariant-loop-byte l = l.typed.items ++ typed l.rest ≡ typed l.bytes

abbrev pub decreases-loop-byte : goal.decreases-loop-byte
decreases-loop-byte l = length l.rest
