use Rattle.std.proofs.Common.{◌≡◌, ◌++◌, drop}
use Rattle.std.specs.List.{flat_map}
use Rattle.state_text.specs.Printing.Memory.{byte_column}
use Rattle.state_text.proofs.printing.memory.put_bytes.Given as goal

abbrev pub invariant-loop-byte : goal.invariant-loop-byte
invariant-loop-byte l = l.out.items ++ flat_map byte_column (drop l.byte-index l.bytes) ≡ l.fn.out.items ++ flat_map byte_column l.bytes
