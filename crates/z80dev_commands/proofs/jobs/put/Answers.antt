use Rattle.std.proofs.Common.{codes, refl}
use Rattle.z80dev_commands.proofs.Rows.{has_target, has_text, reads_flag}
use Rattle.z80dev_commands.proofs.jobs.put.Goals as goal

pub target-target-requires : goal.target-target-requires
target-target-requires c = has_target (codes "put") _ refl refl refl c.requires

pub text-file-requires : goal.text-file-requires
text-file-requires c = has_text (codes "put") (codes "FILE") _ refl c.requires

pub flag-requires : goal.flag-requires
flag-requires c = reads_flag (codes "put") (codes "to") _ refl c.requires
