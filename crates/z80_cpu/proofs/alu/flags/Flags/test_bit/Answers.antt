use Rattle.std.proofs.Common.{arith}
use Rattle.z80_cpu.proofs.Tables.{bit_is_clear}
use Rattle.z80_cpu.proofs.alu.flags.Flags.test_bit.Goals as goal

pub returns : goal.returns
returns c = rw (c.number.ensures.code, bit_is_clear c.args.bit c.args.value (omega arith))
