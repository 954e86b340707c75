use Rattle.std.proofs.Common.{◌∙◌, sym}
use Rattle.z80dev_disk.proofs.Files_found.{reason}
use Rattle.z80dev_disk.proofs.getting.refusal_of.Goals as goal

pub returns-clause-reason : goal.returns-clause-reason
returns-clause-reason c = c.bad_file.ensures ∙ sym (reason c.args.pattern.now c.args.files.now (sym c.is_empty.ensures ∙ c.if-is_empty.false))
