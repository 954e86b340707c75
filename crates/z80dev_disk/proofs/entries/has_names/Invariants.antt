use Rattle.std.proofs.Common.{◌≡◌, ◌<◌, ℕ, length}
use Rattle.cpm_image.specs.Directory.Entries.{at}
use Rattle.cpm_disk.specs.Image.{directory}
use Rattle.z80dev_disk.proofs.entries.has_names.Given as goal

abbrev pub invariant-loop-number : goal.invariant-loop-number
invariant-loop-number l = (k : ℕ) → k < l.number → length (at (directory l.disk.kind l.disk.device) k).name ≡ 11
