use Rattle.std.proofs.Common.{arith}
use Rattle.z80_cpu.proofs.Tables.{and_not_mask}
use Rattle.z80_cpu.proofs.alu.rotations.reset_bit.Goals as goal

pub returns : goal.returns
returns c = rw c.number.ensures.code (and_not_mask c.args.bit c.args.value (omega arith))
