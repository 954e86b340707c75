use Rattle.std.proofs.Common.{codes, refl}
use Rattle.z80dev_commands.proofs.Rows.{has_texts, reads_flag}
use Rattle.z80dev_commands.proofs.jobs.build.Goals as goal

pub flag-requires : goal.flag-requires
flag-requires c = reads_flag (codes "build") (codes "grow") _ refl c.requires

pub flag-requires-2 : goal.flag-requires-2
flag-requires-2 c = reads_flag (codes "build") (codes "list") _ refl c.requires

pub flag-requires-3 : goal.flag-requires-3
flag-requires-3 c = reads_flag (codes "build") (codes "map") _ refl c.requires

pub flag-requires-4 : goal.flag-requires-4
flag-requires-4 c = reads_flag (codes "build") (codes "verbose") _ refl c.requires

pub warn-requires : goal.warn-requires
warn-requires c = reads_flag (codes "build") (codes "no-warn") _ refl c.requires

pub texts-requires : goal.texts-requires
texts-requires c = has_texts (codes "build") (codes "SRC") _ refl c.requires
