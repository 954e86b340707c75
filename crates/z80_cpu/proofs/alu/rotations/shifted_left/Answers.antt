use Rattle.std.proofs.Common.{arith, ◌%◌}
use Rattle.z80_cpu.proofs.Masks.{from_bool_le, or_low}
use Rattle.z80_cpu.proofs.alu.rotations.shifted_left.Goals as goal

pub returns : goal.returns
returns c = let small = from_bool_le c.args.bit_in in or_low _ (c.args.value % 128) 1 _ (omega arith) (omega arith)
