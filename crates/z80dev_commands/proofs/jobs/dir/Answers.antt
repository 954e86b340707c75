use Rattle.std.proofs.Common.{codes, refl}
use Rattle.z80dev_commands.proofs.Rows.{has_text, reads_flag, reads_number}
use Rattle.z80dev_commands.proofs.jobs.dir.Goals as goal

pub text-requires : goal.text-requires
text-requires c = has_text (codes "dir") (codes "IMG") _ refl c.requires

pub user-requires : goal.user-requires
user-requires c = reads_number 31 (codes "dir") (codes "N") _ refl c.requires

pub flag-requires : goal.flag-requires
flag-requires c = reads_flag (codes "dir") (codes "long") _ refl c.requires
