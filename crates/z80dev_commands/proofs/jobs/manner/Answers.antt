use Rattle.std.proofs.Common.{codes, refl}
use Rattle.z80dev_commands.proofs.Rows.{reads_flag}
use Rattle.z80dev_commands.proofs.jobs.manner.Goals as goal

pub flag-requires : goal.flag-requires
flag-requires c = reads_flag (codes "put") (codes "replace") _ refl c.requires

pub flag-requires-2 : goal.flag-requires-2
flag-requires-2 c = reads_flag (codes "put") (codes "text") _ refl c.requires
