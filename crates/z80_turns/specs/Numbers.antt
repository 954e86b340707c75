-- The numbers after an opcode at PC, and after a prefix and its opcode.
use Rattle.std.specs.Prelude.{ℕ, ◌+◌, ◌*◌, ℤ}
use Rattle.std.specs.Int.{w8, cast_signed}
use Rattle.z80_cpu.specs.State.{Machine, byte_at, up_by}

-- the numbers n, e and nn after an opcode
abbrev pub next_byte : Machine → ℕ
next_byte m = byte_at (up_by 1 m.cpu.pc) m.memory

abbrev pub next_signed : Machine → ℤ
next_signed m = cast_signed w8 (next_byte m)

abbrev pub next_word : Machine → ℕ
next_word m = next_byte m + 256 * byte_at (up_by 2 m.cpu.pc) m.memory

-- the bytes and words after a prefix and its opcode
abbrev pub third_byte : Machine → ℕ
third_byte m = byte_at (up_by 2 m.cpu.pc) m.memory

abbrev pub third_signed : Machine → ℤ
third_signed m = cast_signed w8 (third_byte m)

abbrev pub fourth_byte : Machine → ℕ
fourth_byte m = byte_at (up_by 3 m.cpu.pc) m.memory

abbrev pub third_word : Machine → ℕ
third_word m = third_byte m + 256 * fourth_byte m
