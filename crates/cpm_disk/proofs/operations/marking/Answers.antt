use Rattle.cpm_disk.proofs.Kept.{marking_keeps}
use Rattle.cpm_disk.proofs.operations.marking.Goals as goal

pub returns-clause-kept : goal.returns-clause-kept
returns-clause-kept c kind attribute on = marking_keeps kind c.args.user c.args.pattern.now attribute on c.args.entries.now c.requires.user
