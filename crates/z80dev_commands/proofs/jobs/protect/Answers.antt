use Rattle.std.proofs.Common.{◌≡◌, Bool, true, false, List, codes, is_some, refl}
use Rattle.clap.specs.Words.{Row, all_of}
use Rattle.z80dev_commands.specs.Commands.{protect_name}
use Rattle.z80dev_commands.specs.Private.{AreFound, HasTarget, IsFlag}
use Rattle.z80dev_commands.proofs.Rows.{has_target, has_texts, reads_flag}
use Rattle.z80dev_commands.proofs.jobs.protect.Goals as goal

-- the two commands have the same arguments
abbrev HasArguments : List Row → Type 0
HasArguments rows = HasTarget rows × IsFlag (codes "system") rows × (is_some (all_of (codes "NAME") rows) ≡ true)

has_arguments : (on : Bool) (rows : List Row) → AreFound (protect_name on) rows → HasArguments rows
has_arguments true rows met = (
  has_target (codes "protect") rows refl refl refl met,
  reads_flag (codes "protect") (codes "system") rows refl met,
  has_texts (codes "protect") (codes "NAME") rows refl met,
)
has_arguments false rows met = (
  has_target (codes "unprotect") rows refl refl refl met,
  reads_flag (codes "unprotect") (codes "system") rows refl met,
  has_texts (codes "unprotect") (codes "NAME") rows refl met,
)

pub target-requires : goal.target-requires
target-requires c = (has_arguments c.args.on _ c.requires).0

pub attribute-requires : goal.attribute-requires
attribute-requires c = (has_arguments c.args.on _ c.requires).1

pub texts-requires : goal.texts-requires
texts-requires c = (has_arguments c.args.on _ c.requires).2
