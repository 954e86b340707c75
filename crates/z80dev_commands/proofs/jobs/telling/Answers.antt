use Rattle.std.proofs.Common.{codes, refl}
use Rattle.z80dev_commands.proofs.Rows.{reads_flag, reads_number}
use Rattle.z80dev_commands.proofs.jobs.telling.Goals as goal

pub flag-requires : goal.flag-requires
flag-requires c = reads_flag (codes "run") (codes "regs") _ refl c.requires

pub last-requires : goal.last-requires
last-requires c = reads_number 1000000 (codes "run") (codes "COUNT") _ refl c.requires
