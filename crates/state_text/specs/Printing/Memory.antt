-- How memory is printed.
use Rattle.std.specs.Prelude.{ℕ, ◌*◌, ◌-◌, ◌/◌, ◌%◌, ◌==◌, ◌&&◌, List, [], ◌∷◌, ◌++◌, codes, if◌then◌else◌, map, nat_le}
use Rattle.std.specs.List.{flat_map, range_with_len}
use Rattle.hex.specs.Hex.{encode_upper}
use Rattle.z80_cpu.specs.State.{byte_at, up_by}
use Rattle.state_text.specs.Printing.Columns.{blanks, word_text}

-- these bytes from an address on; after FFFFH comes address 0
abbrev pub memory_bytes : List ℕ → ℕ → ℕ → List ℕ
memory_bytes memory from count = map (λ n. byte_at (up_by n from) memory) (range_with_len 0 count)

-- a blank and a byte as two hexadecimal digits
abbrev pub byte_column : ℕ → List ℕ
byte_column byte = blanks 1 ++ encode_upper (byte ∷ [])

-- a byte as a character, or a full stop for a byte outside 20H to 7EH
abbrev pub shown_character : ℕ → ℕ
shown_character byte = if nat_le 0x20 byte && nat_le byte 0x7E then byte else 0x2E

-- a line: the address, the bytes, and the same as characters
abbrev pub memory_line : List ℕ → ℕ → ℕ → List ℕ
memory_line memory from count =
    word_text from ++ blanks 1 ++ flat_map byte_column (memory_bytes memory from count) ++ blanks 2 ++ map shown_character (memory_bytes memory from count) ++ codes "\n"

-- where this many lines of 16 bytes begin
abbrev pub line_starts : ℕ → ℕ → List ℕ
line_starts from lines = map (λ n. up_by (16 * n) from) (range_with_len 0 lines)

-- the last line, if there are fewer than 16 bytes for it
abbrev pub last_line : List ℕ → ℕ → ℕ → List ℕ
last_line memory from count = if count == 0 then [] else memory_line memory from count

-- the lines of these bytes, 16 a line
abbrev pub memory_text : List ℕ → ℕ → ℕ → List ℕ
memory_text memory from count = flat_map (λ start. memory_line memory start 16) (line_starts from (count / 16)) ++ last_line memory (up_by (count - count % 16) from) (count % 16)
