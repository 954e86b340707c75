use Rattle.std.proofs.Common.{arith}
use Rattle.cpm_disk.proofs.Near.{found_extent}
use Rattle.cpm_disk.proofs.nearby.extent_near.Goals as goal

pub returns-clause-found : goal.returns-clause-found
returns-clause-found c = found_extent c.args.kind c.args.user c.args.name.now c.args.number c.args.entries.now c.position_of.result (omega (arith, c.file_records.ensures, c.if-number-file_records.false)) c.position_of.ensures.found
