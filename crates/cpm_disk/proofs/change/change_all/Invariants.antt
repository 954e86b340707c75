use Rattle.std.proofs.Common.{◌≡◌}
use Rattle.cpm_disk.proofs.Changes.{Changing}
use Rattle.cpm_disk.proofs.change.change_all.Given as goal

abbrev pub invariant-loop-number : goal.invariant-loop-number
invariant-loop-number g l = record {
  so_far : Changing l.kind l.change (g.S.Sectors.sectors l.fn.device) (g.S.Sectors.sectors l.device) l.fn.entries l.entries l.number;
  unfailed : g.S.Sectors.faults l.device ≡ g.S.Sectors.faults l.fn.device;
}
