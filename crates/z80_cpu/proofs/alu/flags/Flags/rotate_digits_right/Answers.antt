use Rattle.std.proofs.Common.{arith, ◌%◌, refl}
use Rattle.z80_cpu.proofs.Masks.{low_digit, digits_joined, low_digit_replaced}
use Rattle.z80_cpu.proofs.alu.flags.Flags.rotate_digits_right.Goals as goal

pub returns-clause-accumulator : goal.returns-clause-accumulator
returns-clause-accumulator c = rw (low_digit c.args.value) (low_digit_replaced c.args.a (c.args.value % 16) (omega arith) (omega arith))

pub returns-clause-byte : goal.returns-clause-byte
returns-clause-byte c = digits_joined c.args.a _ (omega arith)

pub returns-clause-flags : goal.returns-clause-flags
returns-clause-flags c = rw c.set_parity.ensures (rw (low_digit c.args.value, low_digit_replaced c.args.a (c.args.value % 16) (omega arith) (omega arith)) refl)
