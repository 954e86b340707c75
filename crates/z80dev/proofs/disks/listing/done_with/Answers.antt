use Rattle.z80dev.proofs.Images.{otherwise}
use Rattle.z80dev.proofs.disks.listing.done_with.Goals as goal

pub returns-in_default : goal.returns-in_default
returns-in_default c = otherwise c.args.end c.args.line c.in_default.not-Done
