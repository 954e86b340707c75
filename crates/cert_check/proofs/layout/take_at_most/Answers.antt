use Rattle.std.proofs.Common.{arith}
use Rattle.cert_check.proofs.Bytes.{bytes_fit, too_many}
use Rattle.cert_check.proofs.layout.take_at_most.Goals as goal

pub total-requires : goal.total-requires
total-requires c = bytes_fit c.args.sizes.now c.requires.bytes (omega arith)

pub returns-else-sizes-limit : goal.returns-else-sizes-limit
returns-else-sizes-limit c = too_many c.args.sizes.now c.args.limit c.requires.bytes (omega arith)
