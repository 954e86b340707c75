use Rattle.std.proofs.Common.{codes, refl}
use Rattle.z80dev_commands.proofs.Rows.{has_text, reads_flag}
use Rattle.z80dev_commands.proofs.jobs.asm.Goals as goal

pub flag-requires : goal.flag-requires
flag-requires c = reads_flag (codes "asm") (codes "grow") _ refl c.requires

pub warn-requires : goal.warn-requires
warn-requires c = reads_flag (codes "asm") (codes "no-warn") _ refl c.requires

pub text-requires : goal.text-requires
text-requires c = has_text (codes "asm") (codes "SRC") _ refl c.requires
