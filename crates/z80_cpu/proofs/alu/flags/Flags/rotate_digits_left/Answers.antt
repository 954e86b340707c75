use Rattle.std.proofs.Common.{arith, ap, ◌∙◌, false}
use Rattle.z80_cpu.proofs.Masks.{low_digit, digits_joined, low_digit_replaced}
use Rattle.z80_cpu.specs.Alu.Bytes.{parity_flags}
use Rattle.z80_cpu.proofs.alu.flags.Flags.rotate_digits_left.Goals as goal

pub returns-clause-accumulator : goal.returns-clause-accumulator
returns-clause-accumulator c = low_digit_replaced c.args.a _ (omega arith) (omega arith)

pub returns-clause-byte : goal.returns-clause-byte
returns-clause-byte c = rw (low_digit c.args.a) (digits_joined c.args.value _ (omega arith))

pub returns-clause-flags : goal.returns-clause-flags
returns-clause-flags c = c.set_parity.ensures ∙ ap (λ v. parity_flags v false c.args.self.now) (low_digit_replaced c.args.a _ (omega arith) (omega arith))
