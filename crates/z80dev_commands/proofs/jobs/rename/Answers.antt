use Rattle.std.proofs.Common.{codes, refl}
use Rattle.z80dev_commands.proofs.Rows.{has_target, has_text}
use Rattle.z80dev_commands.proofs.jobs.rename.Goals as goal

pub target-requires : goal.target-requires
target-requires c = has_target (codes "rename") _ refl refl refl c.requires

pub text-requires : goal.text-requires
text-requires c = has_text (codes "rename") (codes "OLD") _ refl c.requires

pub text-requires-2 : goal.text-requires-2
text-requires-2 c = has_text (codes "rename") (codes "NEW") _ refl c.requires
