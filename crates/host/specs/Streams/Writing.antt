-- What writes do to a stream.
use Rattle.std.specs.Prelude.{◌≡◌, ◌<◌, ◌≤◌, ◌^◌, ℕ, false, List, [], ◌∷◌, ◌++◌, ◌+◌, Result, Ok, Err, codes, length, take}
use Rattle.std.specs.Io.KnownBytes.{Appends, Keeps}
use Rattle.host.specs.declared.streams.sink.WriteFault.{WriteFault}
use Rattle.host.specs.declared.streams.sink.WriteFault.TheVariants.{Interrupted, Failed}
use Rattle.host.specs.declared.streams.writing.WriteFailed.{WriteFailed}
use Rattle.host.specs.Streams.Stream.{Stream, counted}

-- neither count has risen
pub record Succeeds (old new : Stream) : Type 0 where
  pub failures : new.failures ≡ old.failures
  pub interruptions : new.interruptions ≡ old.interruptions

-- A signal interrupted the call, and the stream counts that. The count has 64 bits and must rise, so a stream that is interrupted for
-- ever has to fail in the end.
pub record IsInterrupted (old new : Stream) : Type 0 where
  pub failures : new.failures ≡ old.failures
  pub interruptions : new.interruptions ≡ old.interruptions + 1
  pub bound : new.interruptions < 2 ^ 64

-- the stream failed, and counts it
pub record HasFailed (old new : Stream) : Type 0 where
  pub failures : new.failures ≡ counted old.failures

-- One write: it takes the first bytes, at least one; or none, because the stream was interrupted or failed.
abbrev pub Writes : Stream → Stream → List ℕ → Result ℕ WriteFault → Type 0
Writes old new bytes (Ok n) = (0 < n) × (n ≤ length bytes) × Appends old.bytes new.bytes (take n bytes) × Succeeds old new
Writes old new bytes (Err Interrupted) = Keeps old.bytes new.bytes × IsInterrupted old new
Writes old new bytes (Err Failed) = Keeps old.bytes new.bytes × HasFailed old new

abbrev pub Flushes : Stream → Stream → Result Unit WriteFault → Type 0
Flushes old new (Ok _) = Keeps old.bytes new.bytes × (new.held ≡ false) × Succeeds old new
Flushes old new (Err Interrupted) = Keeps old.bytes new.bytes × IsInterrupted old new
Flushes old new (Err Failed) = Keeps old.bytes new.bytes × HasFailed old new

-- the first n of these bytes were added, for some n
abbrev pub AppendsFront : Stream → Stream → List ℕ → Type 0
AppendsFront old new bytes = (n : ℕ) × Appends old.bytes new.bytes (take n bytes)

-- all of the bytes are written, and the stream did not fail
abbrev pub PutsAll : Stream → Stream → List ℕ → Type 0
PutsAll old new bytes = Appends old.bytes new.bytes bytes × (new.failures ≡ old.failures)

-- all of the bytes are written, and no buffer holds any of them back
abbrev pub PrintsAll : Stream → Stream → List ℕ → Type 0
PrintsAll old new bytes = PutsAll old new bytes × (new.held ≡ false)

-- the stream failed once, and only the first of the bytes are written
abbrev pub PutsFront : Stream → Stream → List ℕ → Type 0
PutsFront old new bytes = AppendsFront old new bytes × (new.failures ≡ counted old.failures)

-- what putting bytes does
abbrev pub Puts : Stream → Stream → List ℕ → Result Unit WriteFailed → Type 0
Puts old new bytes (Ok _) = PutsAll old new bytes
Puts old new bytes (Err _) = PutsFront old new bytes

-- what printing bytes does
abbrev pub PrintsBytes : Stream → Stream → List ℕ → Result Unit WriteFailed → Type 0
PrintsBytes old new bytes (Ok _) = PrintsAll old new bytes
PrintsBytes old new bytes (Err _) = PutsFront old new bytes

-- The bytes that a buffer holds back are written out; they already count as written.
abbrev pub Flushed : Stream → Stream → Result Unit WriteFailed → Type 0
Flushed old new (Ok _) = Keeps old.bytes new.bytes × (new.failures ≡ old.failures) × (new.held ≡ false)
Flushed old new (Err _) = Keeps old.bytes new.bytes × (new.failures ≡ counted old.failures)

-- the line that reports an error
abbrev pub error_line : List ℕ → List ℕ
error_line text = codes "error: " ++ text ++ 10 ∷ []
