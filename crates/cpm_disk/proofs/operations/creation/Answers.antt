use Rattle.cpm_disk.proofs.Worth.{created}
use Rattle.cpm_disk.proofs.operations.creation.Goals as goal

pub returns-clause-kept : goal.returns-clause-kept
returns-clause-kept c kind = created kind c.args.user c.args.name.now c.args.entries.now c.new_file.result c.requires.user c.is_name.ensures.seven c.new_file.ensures.step
