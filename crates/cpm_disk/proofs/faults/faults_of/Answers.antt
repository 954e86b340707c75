use Rattle.std.proofs.Common.{ap, arith, length, ◌∙◌}
use Rattle.cpm_disk.proofs.Numbers.{few_entries}
use Rattle.cpm_disk.proofs.Places.{length_directory}
use Rattle.cpm_disk.proofs.faults.faults_of.Goals as goal

pub faults-requires : goal.faults-requires
faults-requires g c =
    let few = few_entries c.in-Some.kind in
    let long = ap length (c.deref.ensures.value ∙ c.in_ok-entries.ensures.entries) ∙ length_directory c.in-Some.kind (g.S.Sectors.sectors c.args.device.now) in
    omega arith
