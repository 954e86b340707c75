use Rattle.std.proofs.Common.{◌∙◌, arith}
use Rattle.z80_cpu.proofs.Masks.{from_bool_le, xor_and_xor_is_set}
use Rattle.z80_cpu.proofs.Carries.{difference_overflows}
use Rattle.z80_cpu.proofs.alu.bits.subtract_overflows.Goals as goal

pub returns : goal.returns
returns c = λ borrow e. xor_and_xor_is_set c.args.a c.args.b c.args.a c.args.difference 7 ∙ difference_overflows _ _ _ _ (from_bool_le borrow) (omega arith) (omega arith) e
