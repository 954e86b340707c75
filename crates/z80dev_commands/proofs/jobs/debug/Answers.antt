use Rattle.std.proofs.Common.{codes, refl}
use Rattle.z80dev_commands.proofs.Rows.{has_text}
use Rattle.z80dev_commands.proofs.jobs.debug.Goals as goal

pub text-requires : goal.text-requires
text-requires c = has_text (codes "debug") (codes "COM") _ refl c.requires
