-- What each instruction does, one equation for each, with PC at the next instruction.
--
-- Z80 CPU User Manual (Zilog UM0080), "Z80 Instruction Description", in the manual's groups and order. What is not named
-- stays as it was. This project's choices, where the manual leaves them open: IN gives FFH, OUT goes nowhere, R is a plain
-- byte, RETI is RET.
use Rattle.std.specs.Prelude.{◌*◌, true, false, if◌then◌else◌}
use Rattle.z80_instr.specs.Table.{octal_code}
use Rattle.z80_cpu.specs.Alu.Bytes.{sum_of, difference_of, parity_flags, increment_flags, decrement_flags, set_carry_flags, complement_carry_flags}
use Rattle.z80_cpu.specs.Alu.Rotations.{rotated, rotate_flags, rld_byte, rld_accumulator, rrd_byte, rrd_accumulator, bit_flags, set_bit, reset_bit}
use Rattle.z80_cpu.specs.Types.{Rotation, Instr}
use Rattle.z80_cpu.specs.State.{Machine, on_cpu, with_main, with_a, with_flags, with_a_and_flags, with_pc, down_by, displaced, byte_at, word_at, store_byte, store_word, register_value, with_register, hl, word_value, with_word, hl_or_index_value, with_hl_or_index, stack_operand_value, with_stack_operand}
use Rattle.z80_cpu.specs.Operands.{address_of, pointer_address, operand_value, with_operand, condition_holds, short_condition_holds}
use Rattle.z80_cpu.specs.Stack.{pushed, top, popped, called, returned}
use Rattle.z80_cpu.specs.Exchange.{ex_de_hl, ex_af, exx}
use Rattle.z80_cpu.specs.Arithmetic.{loaded_from_control, operated, adjusted_a, complemented_a, negated_a, rotated_a, added_to_hl, added_to_hl_with_carry, subtracted_from_hl, added_to_index, incremented, decremented}
use Rattle.z80_cpu.specs.Jumps.{jumped_if, counted_and_jumped}
use Rattle.z80_cpu.specs.Blocks.{port_value, block_effect}

abbrev pub instruction_effect : Instr → Machine → Machine
-- 8-bit load group
instruction_effect (Instr.Load r operand) m = on_cpu (with_main (with_register r (operand_value operand m) m.cpu.main)) m
instruction_effect (Instr.Store place r) m = store_byte (address_of place m.cpu) (register_value r m.cpu.main) m
instruction_effect (Instr.LoadByte operand n) m = with_operand operand n m
instruction_effect (Instr.LoadA pointer) m = on_cpu (with_a (byte_at (pointer_address pointer m.cpu) m.memory)) m
instruction_effect (Instr.StoreA pointer) m = store_byte (pointer_address pointer m.cpu) m.cpu.main.a m
instruction_effect Instr.LoadAFromI m = on_cpu (loaded_from_control m.cpu.i) m
instruction_effect Instr.LoadAFromR m = on_cpu (loaded_from_control m.cpu.r) m
instruction_effect Instr.LoadIFromA m = on_cpu (λ cpu. record cpu { i = cpu.main.a }) m
instruction_effect Instr.LoadRFromA m = on_cpu (λ cpu. record cpu { r = cpu.main.a }) m
-- 16-bit load group
instruction_effect (Instr.LoadWord register nn) m = on_cpu (with_word register nn) m
instruction_effect (Instr.LoadWordFrom register nn) m = on_cpu (with_word register (word_at nn m.memory)) m
instruction_effect (Instr.StoreWord register nn) m = store_word nn (word_value register m.cpu) m
instruction_effect (Instr.LoadSp register) m = on_cpu (λ cpu. record cpu { sp = hl_or_index_value register cpu }) m
instruction_effect (Instr.Push operand) m = pushed (stack_operand_value operand m.cpu) m
instruction_effect (Instr.Pop operand) m = on_cpu (λ cpu. with_stack_operand operand (top cpu m.memory) (popped cpu)) m
-- exchange, block transfer, and search group
instruction_effect Instr.ExDeHl m = on_cpu ex_de_hl m
instruction_effect Instr.ExAf m = on_cpu ex_af m
instruction_effect Instr.Exx m = on_cpu exx m
instruction_effect (Instr.ExSp register) m =
    on_cpu (with_hl_or_index register (top m.cpu m.memory)) (store_word m.cpu.sp (hl_or_index_value register m.cpu) m)
instruction_effect (Instr.Block operation step) m = block_effect operation step m
-- 8-bit arithmetic group
instruction_effect (Instr.Alu operation operand) m = on_cpu (operated operation (operand_value operand m)) m
instruction_effect (Instr.AluByte operation n) m = on_cpu (operated operation n) m
instruction_effect (Instr.Inc operand) m =
    let value = operand_value operand m in
    with_operand operand (sum_of value 1 false) (on_cpu (with_flags (increment_flags value m.cpu.main.flags)) m)
instruction_effect (Instr.Dec operand) m =
    let value = operand_value operand m in
    with_operand operand (difference_of value 1 false) (on_cpu (with_flags (decrement_flags value m.cpu.main.flags)) m)
-- general-purpose arithmetic and CPU control groups
instruction_effect Instr.Daa m = on_cpu adjusted_a m
instruction_effect Instr.Cpl m = on_cpu complemented_a m
instruction_effect Instr.Neg m = on_cpu negated_a m
instruction_effect Instr.Ccf m = on_cpu (with_flags (complement_carry_flags m.cpu.main.flags)) m
instruction_effect Instr.Scf m = on_cpu (with_flags (set_carry_flags m.cpu.main.flags)) m
instruction_effect Instr.Nop m = m
-- (the processor stays at HALT: PC goes back by its one byte)
instruction_effect Instr.Halt m = on_cpu (with_pc (down_by 1 m.cpu.pc)) m
instruction_effect Instr.Di m = on_cpu (λ cpu. record cpu { iff1 = false; iff2 = false }) m
instruction_effect Instr.Ei m = on_cpu (λ cpu. record cpu { iff1 = true; iff2 = true }) m
instruction_effect (Instr.Im mode) m = on_cpu (λ cpu. record cpu { mode = mode }) m
-- 16-bit arithmetic group
instruction_effect (Instr.AddHl ss) m = on_cpu (added_to_hl ss) m
instruction_effect (Instr.AdcHl ss) m = on_cpu (added_to_hl_with_carry ss) m
instruction_effect (Instr.SbcHl ss) m = on_cpu (subtracted_from_hl ss) m
instruction_effect (Instr.AddIndex index pp) m = on_cpu (added_to_index index pp) m
instruction_effect (Instr.IncWord register) m = on_cpu (incremented register) m
instruction_effect (Instr.DecWord register) m = on_cpu (decremented register) m
-- rotate and shift group
instruction_effect Instr.Rlca m = on_cpu (rotated_a Rotation.Rlc) m
instruction_effect Instr.Rla m = on_cpu (rotated_a Rotation.Rl) m
instruction_effect Instr.Rrca m = on_cpu (rotated_a Rotation.Rrc) m
instruction_effect Instr.Rra m = on_cpu (rotated_a Rotation.Rr) m
instruction_effect (Instr.Rotate rotation operand) m =
    let value = operand_value operand m in
    let flags = m.cpu.main.flags in
    with_operand operand (rotated rotation value flags.carry) (on_cpu (with_flags (rotate_flags rotation value flags)) m)
instruction_effect Instr.Rld m =
    let r = m.cpu.main in
    let value = byte_at (hl r) m.memory in
    let a = rld_accumulator r.a value in
    store_byte (hl r) (rld_byte r.a value) (on_cpu (with_a_and_flags a (parity_flags a false r.flags)) m)
instruction_effect Instr.Rrd m =
    let r = m.cpu.main in
    let value = byte_at (hl r) m.memory in
    let a = rrd_accumulator r.a value in
    store_byte (hl r) (rrd_byte r.a value) (on_cpu (with_a_and_flags a (parity_flags a false r.flags)) m)
-- bit set, reset, and test group
instruction_effect (Instr.Bit bit operand) m = on_cpu (with_flags (bit_flags bit (operand_value operand m) m.cpu.main.flags)) m
instruction_effect (Instr.Set bit operand) m = with_operand operand (set_bit bit (operand_value operand m)) m
instruction_effect (Instr.Res bit operand) m = with_operand operand (reset_bit bit (operand_value operand m)) m
-- jump group
instruction_effect (Instr.Jump nn) m = on_cpu (with_pc nn) m
instruction_effect (Instr.JumpIf cc nn) m = on_cpu (jumped_if (condition_holds cc m.cpu.main.flags) nn) m
instruction_effect (Instr.JumpRelative e) m = on_cpu (with_pc (displaced m.cpu.pc e)) m
instruction_effect (Instr.JumpRelativeIf cc e) m = on_cpu (jumped_if (short_condition_holds cc m.cpu.main.flags) (displaced m.cpu.pc e)) m
instruction_effect (Instr.JumpIndirect register) m = on_cpu (with_pc (hl_or_index_value register m.cpu)) m
instruction_effect (Instr.Djnz e) m = on_cpu (counted_and_jumped e) m
-- call and return group
instruction_effect (Instr.Call nn) m = called nn m
instruction_effect (Instr.CallIf cc nn) m = if condition_holds cc m.cpu.main.flags then called nn m else m
instruction_effect Instr.Ret m = on_cpu (returned m.memory) m
instruction_effect (Instr.RetIf cc) m = if condition_holds cc m.cpu.main.flags then on_cpu (returned m.memory) m else m
instruction_effect Instr.Reti m = on_cpu (returned m.memory) m
instruction_effect Instr.Retn m = on_cpu (λ cpu. record (returned m.memory cpu) { iff1 = cpu.iff2 }) m
instruction_effect (Instr.Restart p) m = called (8 * octal_code p) m
-- input and output group
instruction_effect (Instr.InA n) m = on_cpu (with_a port_value) m
instruction_effect (Instr.InC r) m =
    let flags = parity_flags port_value false m.cpu.main.flags in
    on_cpu (with_main (record (with_register r port_value m.cpu.main) { flags = flags })) m
instruction_effect (Instr.OutA n) m = m
instruction_effect (Instr.OutC r) m = m
