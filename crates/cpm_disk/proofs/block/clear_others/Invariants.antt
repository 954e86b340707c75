use Rattle.std.proofs.Common.{◌≡◌, length}
use Rattle.cpm_image.specs.Kind.{sector_count}
use Rattle.cpm_disk.specs.Private.Blocks.{Cleared}
use Rattle.cpm_disk.proofs.block.clear_others.Given as goal

abbrev pub invariant-loop-i : goal.invariant-loop-i
invariant-loop-i g l = record {
  count : length (g.S.Sectors.sectors l.device) ≡ sector_count l.kind;
  so_far : Cleared l.kind (g.S.Sectors.sectors l.fn.device) (g.S.Sectors.sectors l.device) l.block l.kept l.i;
  unfailed : g.S.Sectors.faults l.device ≡ g.S.Sectors.faults l.fn.device;
}
