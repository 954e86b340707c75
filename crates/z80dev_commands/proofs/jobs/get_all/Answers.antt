use Rattle.std.proofs.Common.{codes, refl}
use Rattle.z80dev_commands.proofs.Rows.{has_text, reads_flag, reads_number}
use Rattle.z80dev_commands.proofs.jobs.get_all.Goals as goal

pub text-requires : goal.text-requires
text-requires c = has_text (codes "get") (codes "IMG") _ refl c.requires.found

pub user_or_zero-requires : goal.user_or_zero-requires
user_or_zero-requires c = reads_number 31 (codes "get") (codes "N") _ refl c.requires.found

pub flag-requires : goal.flag-requires
flag-requires c = reads_flag (codes "get") (codes "text") _ refl c.requires.found

pub text-requires-then-is_empty : goal.text-requires-then-is_empty
text-requires-then-is_empty c = has_text (codes "get") (codes "NAME") _ refl c.requires.found
