use Rattle.std.proofs.Common.{codes, refl}
use Rattle.z80dev_commands.proofs.Rows.{has_text, reads_flag, reads_number}
use Rattle.z80dev_commands.proofs.jobs.get.Goals as goal

pub flag-requires : goal.flag-requires
flag-requires c = reads_flag (codes "get") (codes "all") _ refl c.requires

pub text-requires : goal.text-requires
text-requires c = has_text (codes "get") (codes "IMG") _ refl c.requires

pub user_or_zero-requires : goal.user_or_zero-requires
user_or_zero-requires c = reads_number 31 (codes "get") (codes "N") _ refl c.requires

pub flag-requires-in-Ok : goal.flag-requires-in-Ok
flag-requires-in-Ok c = reads_flag (codes "get") (codes "text") _ refl c.requires

pub text-requires-in-Ok : goal.text-requires-in-Ok
text-requires-in-Ok c = has_text (codes "get") (codes "NAME") _ refl c.requires
