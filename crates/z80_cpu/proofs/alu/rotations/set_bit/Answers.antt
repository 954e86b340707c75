use Rattle.std.proofs.Common.{arith}
use Rattle.z80_cpu.proofs.Tables.{or_mask}
use Rattle.z80_cpu.proofs.alu.rotations.set_bit.Goals as goal

pub returns : goal.returns
returns c = rw c.number.ensures.code (or_mask c.args.bit c.args.value (omega arith))
