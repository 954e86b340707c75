use Rattle.z80dev_disk.proofs.Refused.{no_disk}
use Rattle.z80dev_disk.proofs.image.disk_of.Goals as goal

pub returns : goal.returns
returns c =
    let (same, is_fault) = c.in-Err.ensures.done in
    rw c.from.ensures (no_disk c.args.bytes.now c.in_ok-image.image c.in-Err.fault c.in_ok-image.ensures is_fault c.in-Err.ensures.refusals)
