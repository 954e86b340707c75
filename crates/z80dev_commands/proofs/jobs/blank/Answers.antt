use Rattle.std.proofs.Common.{codes, refl}
use Rattle.z80dev_commands.proofs.Rows.{has_text, reads_flag}
use Rattle.z80dev_commands.proofs.jobs.blank.Goals as goal

pub flag-requires : goal.flag-requires
flag-requires c = reads_flag (codes "blank") (codes "mega") _ refl c.requires

pub flag-requires-2 : goal.flag-requires-2
flag-requires-2 c = reads_flag (codes "blank") (codes "keep") _ refl c.requires

pub lock-requires : goal.lock-requires
lock-requires c = reads_flag (codes "blank") (codes "no-lock") _ refl c.requires

pub text-requires : goal.text-requires
text-requires c = has_text (codes "blank") (codes "IMG") _ refl c.requires
