-- Arithmetic on registers, and LD A,I and LD A,R. The folder Alu defines the results and the flags of the operations.
--
-- Z80 CPU User Manual (Zilog UM0080), the arithmetic groups and "Rotate and Shift Group".
use Rattle.std.specs.Prelude.{ℕ, false}
use Rattle.z80_cpu.specs.Alu.Bytes.{difference_of, subtract_flags, parity_flags, accumulator_after, operation_flags, adjusted, adjust_flags, complemented, complement_flags}
use Rattle.z80_cpu.specs.Alu.Words.{word_sum_of, add_word_flags, adc_word_flags, word_difference_of, sbc_word_flags}
use Rattle.z80_cpu.specs.Alu.Rotations.{rotated, rotate_accumulator_flags}
use Rattle.z80_cpu.specs.Types.{IndexRegister, RegisterPair, WordRegister, Addend, AluOperation, Rotation, Cpu}
use Rattle.z80_cpu.specs.State.{with_main, with_flags, with_a_and_flags, up_by, down_by, hl, with_hl, index_value, with_index, pair_value, word_value, with_word, addend_value}

-- LD A,I and LD A,R: P/V is the second interrupt flip-flop
abbrev pub loaded_from_control : ℕ → Cpu → Cpu
loaded_from_control value cpu =
    with_a_and_flags value (record (parity_flags value false cpu.main.flags) { parity_overflow = cpu.iff2 }) cpu

-- ADD A to CP
abbrev pub operated : AluOperation → ℕ → Cpu → Cpu
operated operation value cpu =
    let r = cpu.main in
    with_a_and_flags (accumulator_after operation r.a value r.flags) (operation_flags operation r.a value r.flags) cpu

-- DAA, CPL, NEG
abbrev pub adjusted_a : Cpu → Cpu
adjusted_a cpu = let r = cpu.main in with_a_and_flags (adjusted r.a r.flags) (adjust_flags r.a r.flags) cpu

abbrev pub complemented_a : Cpu → Cpu
complemented_a cpu = let r = cpu.main in with_a_and_flags (complemented r.a) (complement_flags r.flags) cpu

abbrev pub negated_a : Cpu → Cpu
negated_a cpu = let r = cpu.main in with_a_and_flags (difference_of 0 r.a false) (subtract_flags 0 r.a false r.flags) cpu

-- RLCA, RRCA, RLA, RRA
abbrev pub rotated_a : Rotation → Cpu → Cpu
rotated_a rotation cpu =
    let r = cpu.main in
    with_a_and_flags (rotated rotation r.a r.flags.carry) (rotate_accumulator_flags rotation r.a r.flags) cpu

-- ADD HL, ADC HL, SBC HL
abbrev pub added_to_hl : RegisterPair → Cpu → Cpu
added_to_hl ss cpu =
    let r = cpu.main in
    let b = pair_value ss cpu in
    with_main (with_hl (word_sum_of (hl r) b false) (record r { flags = add_word_flags (hl r) b false r.flags })) cpu

abbrev pub added_to_hl_with_carry : RegisterPair → Cpu → Cpu
added_to_hl_with_carry ss cpu =
    let r = cpu.main in
    let b = pair_value ss cpu in
    let c = r.flags.carry in
    with_main (with_hl (word_sum_of (hl r) b c) (record r { flags = adc_word_flags (hl r) b c r.flags })) cpu

abbrev pub subtracted_from_hl : RegisterPair → Cpu → Cpu
subtracted_from_hl ss cpu =
    let r = cpu.main in
    let b = pair_value ss cpu in
    let c = r.flags.carry in
    with_main (with_hl (word_difference_of (hl r) b c) (record r { flags = sbc_word_flags (hl r) b c r.flags })) cpu

-- ADD IX, ADD IY
abbrev pub added_to_index : IndexRegister → Addend → Cpu → Cpu
added_to_index index pp cpu =
    let a = index_value index cpu in
    let b = addend_value index pp cpu in
    with_index index (word_sum_of a b false) (with_flags (add_word_flags a b false cpu.main.flags) cpu)

-- INC and DEC of a word
abbrev pub incremented : WordRegister → Cpu → Cpu
incremented register cpu = with_word register (up_by 1 (word_value register cpu)) cpu

abbrev pub decremented : WordRegister → Cpu → Cpu
decremented register cpu = with_word register (down_by 1 (word_value register cpu)) cpu
