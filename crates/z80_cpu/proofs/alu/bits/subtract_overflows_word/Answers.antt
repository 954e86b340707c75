use Rattle.std.proofs.Common.{◌∙◌, arith}
use Rattle.z80_cpu.proofs.Masks.{from_bool_le, xor_and_xor_is_set}
use Rattle.z80_cpu.proofs.Carries.{word_difference_overflows}
use Rattle.z80_cpu.proofs.alu.bits.subtract_overflows_word.Goals as goal

pub returns : goal.returns
returns c = λ borrow e. xor_and_xor_is_set c.args.a c.args.b c.args.a c.args.difference 15 ∙ word_difference_overflows _ _ _ _ (from_bool_le borrow) (omega arith) (omega arith) e
