use Rattle.std.proofs.Common.{◌≡◌, length, take}
use Rattle.cpm_disk.proofs.copying.image_copied.Given as goal

abbrev pub invariant-loop-number : goal.invariant-loop-number
invariant-loop-number l = record { count : length l.copy ≡ length l.sectors; first : take l.number l.copy ≡ take l.number l.sectors }
