use Rattle.cpm_disk.proofs.Kept.{erasure_keeps}
use Rattle.cpm_disk.proofs.operations.erasure.Goals as goal

pub returns-clause-kept : goal.returns-clause-kept
returns-clause-kept c kind = erasure_keeps kind c.args.user c.args.pattern.now c.args.entries.now c.requires.user
