use Rattle.std.proofs.Common.{◌≡◌}
use Rattle.state_text.specs.Printing.Memory.{memory_bytes}
use Rattle.state_text.proofs.printing.memory.memory_bytes.Given as goal

abbrev pub invariant-loop-offset : goal.invariant-loop-offset
invariant-loop-offset l = l.bytes.items ≡ memory_bytes l.memory l.from l.offset
