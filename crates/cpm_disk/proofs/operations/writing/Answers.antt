use Rattle.cpm_disk.proofs.Worth.{placed_soundly}
use Rattle.cpm_disk.proofs.operations.writing.Goals as goal

pub returns-clause-kept : goal.returns-clause-kept
returns-clause-kept c = placed_soundly c.args.kind c.args.user c.args.name.now c.args.number c.args.entries.now c.write_place.result c.requires.user c.write_place.ensures.step
