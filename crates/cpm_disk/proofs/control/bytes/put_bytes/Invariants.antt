use Rattle.std.proofs.Common.{◌≡◌, ◌+◌, ◌%◌}
use Rattle.cpm_disk.proofs.Putting.{ArePut}
use Rattle.cpm_disk.proofs.control.bytes.put_bytes.Given as goal

abbrev pub invariant-loop-byte : goal.invariant-loop-byte
invariant-loop-byte l = record {
  next : l.next ≡ (l.address + l.byte-index) % 65536;
  put : ArePut l.address l.byte-index l.bytes l.fn.memory l.memory;
}
