use Rattle.std.proofs.Common.{arith}
use Rattle.cert_check.proofs.Bytes.{laid}
use Rattle.cert_check.proofs.layout.sizes_of.Goals as goal

pub returns : goal.returns
returns c = laid c.args.statements.now c.args.long.now c.loop-k.sizes.items c.requires.shape c.requires.flags (omega arith) (λ j lt. c.loop-k.invariant.each j (omega arith)) c.loop-k.invariant.bytes
