use Rattle.std.proofs.Common.{arith}
use Rattle.cpm_image.proofs.directory.entry.with_letters.Goals as goal
use Rattle.cpm_image.proofs.EntryBytes.{taken}

pub returns : goal.returns
returns c = taken c.loop-i.invariant (omega arith) (omega arith)
