use Rattle.std.proofs.Common.{arith}
use Rattle.z80_cpu.proofs.Masks.{xor_is_set}
use Rattle.z80_cpu.proofs.Tables.{half_of_adjust}
use Rattle.z80_cpu.proofs.alu.flags.Flags.adjust.Goals as goal

pub returns-clause-flags : goal.returns-clause-flags
returns-clause-flags c =
    let turned = xor_is_set c.args.a c.adjusted-value.result 4 in
    let half = half_of_adjust c.args.self.now c.args.a (omega arith) in
    let half = rw (← c.adjusted-value.ensures) at half in
    cc
