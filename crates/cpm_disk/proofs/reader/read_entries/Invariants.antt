use Rattle.std.proofs.Common.{◌≡◌, ◌<◌, ◌*◌, ℕ, length}
use Rattle.cpm_image.specs.Directory.Entries.{at}
use Rattle.cpm_disk.specs.Image.{entry_at}
use Rattle.cpm_disk.proofs.reader.read_entries.Given as goal

-- the entries of the records so far
abbrev pub invariant-loop-number : goal.invariant-loop-number
invariant-loop-number g l = record {
  kept : g.S.Sectors.sectors l.device ≡ g.S.Sectors.sectors l.fn.device;
  unfailed : g.S.Sectors.faults l.device ≡ g.S.Sectors.faults l.fn.device;
  size : length l.entries.items ≡ 4 * l.number;
  read : (k : ℕ) → k < 4 * l.number → at l.entries.items k ≡ entry_at l.kind (g.S.Sectors.sectors l.fn.device) k;
}
