use Rattle.z80_cpu.proofs.Masks.{bit_is_set}
use Rattle.z80_cpu.proofs.alu.flags.Flags.from_byte.Goals as goal

pub returns : goal.returns
returns c =
    let set = bit_is_set c.args.byte in
    let seven = set 7 in
    let six = set 6 in
    let five = set 5 in
    let four = set 4 in
    let three = set 3 in
    let two = set 2 in
    let one = set 1 in
    let none = set 0 in
    cc
