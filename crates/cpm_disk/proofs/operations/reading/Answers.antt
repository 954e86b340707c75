use Rattle.cpm_disk.proofs.Worth.{located}
use Rattle.cpm_disk.proofs.operations.reading.Goals as goal

pub returns-clause-within : goal.returns-clause-within
returns-clause-within c = located c.args.kind c.args.user c.args.name.now c.args.number c.args.entries.now c.read_place.result c.requires c.read_place.ensures.step
