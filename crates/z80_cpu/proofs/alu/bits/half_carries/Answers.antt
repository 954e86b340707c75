use Rattle.std.proofs.Common.{◌∙◌, arith}
use Rattle.z80_cpu.proofs.Masks.{from_bool_le, xor_xor_is_set}
use Rattle.z80_cpu.proofs.Carries.{half_sum, half_difference}
use Rattle.z80_cpu.proofs.alu.bits.half_carries.Goals as goal

pub returns-clause-adding : goal.returns-clause-adding
returns-clause-adding c = λ carry e. xor_xor_is_set c.args.a c.args.b c.args.value 4 ∙ half_sum _ _ _ _ (from_bool_le carry) e

pub returns-clause-subtracting : goal.returns-clause-subtracting
returns-clause-subtracting c = λ borrow e. xor_xor_is_set c.args.a c.args.b c.args.value 4 ∙ half_difference _ _ _ _ (from_bool_le borrow) (omega arith) (omega arith) e
