-- Bytes in a memory of 65,536 bytes, whose addresses wrap around: after FFFFH comes 0000H.
use Rattle.std.specs.Prelude.{◌+◌, ◌-◌, ◌%◌, ℕ, List, length, map, slice_index, slice_index_or}
use Rattle.std.specs.List.{range_with_len}

-- the byte at an address
abbrev pub memory_byte : ℕ → List ℕ → ℕ
memory_byte address memory = slice_index memory (address % 65536)

-- `count` bytes from an address on
unfoldable pub bytes_at : ℕ → ℕ → List ℕ → List ℕ
bytes_at address count memory = map (λ i. memory_byte (address + i) memory) (range_with_len 0 count)

-- the distance from one address up to another
abbrev pub distance_above : ℕ → ℕ → ℕ
distance_above from address = (address + (65536 - from % 65536)) % 65536

-- Memory after bytes are written from an address on. An address whose distance from the first is less than the number of the bytes has
-- the byte at that distance; every other address has what it had.
unfoldable pub with_bytes : ℕ → List ℕ → List ℕ → List ℕ
with_bytes from bytes memory = map (λ k. slice_index_or bytes (distance_above from k) (slice_index memory k)) (range_with_len 0 (length memory))
