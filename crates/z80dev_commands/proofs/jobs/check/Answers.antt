use Rattle.std.proofs.Common.{codes, refl}
use Rattle.z80dev_commands.proofs.Rows.{has_text}
use Rattle.z80dev_commands.proofs.jobs.check.Goals as goal

pub text-requires : goal.text-requires
text-requires c = has_text (codes "check") (codes "SIZES") _ refl c.requires

pub text-requires-2 : goal.text-requires-2
text-requires-2 c = has_text (codes "check") (codes "CERT") _ refl c.requires
