use Rattle.std.proofs.Common.{◌≡◌, ◌<◌, length, take}
use Rattle.machine_history.proofs.snapshot.memory_copied.Given as goal

abbrev pub invariant-loop-index : goal.invariant-loop-index
invariant-loop-index l = record {
  count : length l.copy ≡ 65536;
  first : take l.index l.copy ≡ take l.index l.memory;
  size : 0 < l.index → length l.memory ≡ 65536;
}
