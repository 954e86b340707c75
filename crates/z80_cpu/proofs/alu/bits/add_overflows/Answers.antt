use Rattle.std.proofs.Common.{◌∙◌, arith}
use Rattle.z80_cpu.proofs.Masks.{from_bool_le, xor_and_xor_is_set}
use Rattle.z80_cpu.proofs.Carries.{sum_overflows}
use Rattle.z80_cpu.proofs.alu.bits.add_overflows.Goals as goal

pub returns : goal.returns
returns c = λ carry e. xor_and_xor_is_set c.args.a c.args.sum c.args.b c.args.sum 7 ∙ sum_overflows _ _ _ _ (from_bool_le carry) (omega arith) (omega arith) e
