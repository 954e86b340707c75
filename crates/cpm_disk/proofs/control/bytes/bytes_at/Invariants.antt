use Rattle.std.proofs.Common.{◌≡◌, ◌<◌, ◌+◌, ℕ, get_or, length}
use Rattle.cpm_disk.specs.Control.Bytes.{memory_byte}
use Rattle.cpm_disk.proofs.control.bytes.bytes_at.Given as goal

-- the bytes so far
abbrev pub invariant-loop-i : goal.invariant-loop-i
invariant-loop-i g l = record {
  long : length l.bytes ≡ g.row.N;
  so_far : (k : ℕ) → k < l.i → get_or l.bytes k 0 ≡ memory_byte (l.address + k) l.memory;
}
