use Rattle.std.proofs.Common.{codes, refl}
use Rattle.z80dev_commands.proofs.Rows.{has_target, has_texts}
use Rattle.z80dev_commands.proofs.jobs.erase.Goals as goal

pub target-requires : goal.target-requires
target-requires c = has_target (codes "erase") _ refl refl refl c.requires

pub texts-requires : goal.texts-requires
texts-requires c = has_texts (codes "erase") (codes "NAME") _ refl c.requires
