use Rattle.std.proofs.Common.{codes, refl}
use Rattle.z80dev_commands.proofs.Rows.{has_texts, reads_flag}
use Rattle.z80dev_commands.proofs.jobs.explain.Goals as goal

pub flag-requires : goal.flag-requires
flag-requires c = reads_flag (codes "explain") (codes "grow") _ refl c.requires

pub flag-requires-2 : goal.flag-requires-2
flag-requires-2 c = reads_flag (codes "explain") (codes "jumps") _ refl c.requires

pub flag-requires-3 : goal.flag-requires-3
flag-requires-3 c = reads_flag (codes "explain") (codes "json") _ refl c.requires

pub texts-requires : goal.texts-requires
texts-requires c = has_texts (codes "explain") (codes "SRC") _ refl c.requires
