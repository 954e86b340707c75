use Rattle.std.proofs.Common.{arith}
use Rattle.cpm_image.proofs.directory.name.Name.new.Goals as goal
use Rattle.cpm_image.proofs.EntryBytes.{cut, letters-letters}

pub invariant_of-result : goal.invariant_of-result
invariant_of-result c =
    let e = cut c.loop-byte.invariant (omega arith) in
    rw e (letters-letters c.args.bytes)

pub returns : goal.returns
returns c = cut c.loop-byte.invariant (omega arith)
