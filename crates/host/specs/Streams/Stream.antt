-- A stream as contracts see it.
use Rattle.std.specs.Prelude.{ℕ, Bool, ◌+◌, ◌-◌, ◌^◌, List, Option, min}

-- The bytes that were written, if they are known; the number of failures; the number of interruptions; and whether a buffer may hold some
-- of the bytes back.
pub record Stream : Type 0 where
  pub bytes : Option (List ℕ)
  pub failures : ℕ
  pub interruptions : ℕ
  pub held : Bool

abbrev pub stream_of : Option (List ℕ) → ℕ → ℕ → Bool → Stream
stream_of bytes failures interruptions held = record { bytes = bytes; failures = failures; interruptions = interruptions; held = held }

-- a count of 64 bits plus one; at its greatest value it stays
abbrev pub counted : ℕ → ℕ
counted n = min (n + 1) (2 ^ 64 - 1)
