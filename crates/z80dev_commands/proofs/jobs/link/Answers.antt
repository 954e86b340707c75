use Rattle.std.proofs.Common.{codes, refl}
use Rattle.z80dev_commands.proofs.Rows.{has_texts, reads_flag}
use Rattle.z80dev_commands.proofs.jobs.link.Goals as goal

pub flag-requires : goal.flag-requires
flag-requires c = reads_flag (codes "link") (codes "map") _ refl c.requires

pub texts-requires : goal.texts-requires
texts-requires c = has_texts (codes "link") (codes "OBJ") _ refl c.requires
