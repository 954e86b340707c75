use Rattle.std.proofs.Common.{codes, refl}
use Rattle.z80dev_commands.proofs.Rows.{has_text, reads_flag, reads_number}
use Rattle.z80dev_commands.proofs.jobs.play.Goals as goal

pub lock-requires : goal.lock-requires
lock-requires c = reads_flag (codes "play") (codes "no-lock") _ refl c.requires

pub number-requires : goal.number-requires
number-requires c = reads_number 18446744073709551615 (codes "play") (codes "N") _ refl c.requires

pub flag-requires : goal.flag-requires
flag-requires c = reads_flag (codes "play") (codes "raw") _ refl c.requires

pub text-requires : goal.text-requires
text-requires c = has_text (codes "play") (codes "COM") _ refl c.requires
