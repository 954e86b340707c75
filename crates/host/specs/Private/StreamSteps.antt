-- The steps of a write.
use Rattle.std.specs.Prelude.{◌≡◌, ◌<◌, ◌≤◌, ◌+◌, ◌^◌, ℕ, List, Result, Ok, Err, length, take}
use Rattle.std.specs.Io.KnownBytes.{Appends, Keeps}
use Rattle.host.specs.declared.streams.sink.WriteFault.{WriteFault}
use Rattle.host.specs.declared.streams.sink.WriteFault.TheVariants.{Interrupted, Failed}
use Rattle.host.specs.declared.streams.writing.WriteFailed.{WriteFailed}
use Rattle.host.specs.Streams.Stream.{Stream, counted}

-- some of the bytes are written, at least one; or the stream failed
abbrev pub PutsSome : Stream → Stream → List ℕ → Result ℕ WriteFailed → Type 0
PutsSome old new bytes (Ok n) = (0 < n) × (n ≤ length bytes) × Appends old.bytes new.bytes (take n bytes) × (new.failures ≡ old.failures)
PutsSome old new bytes (Err _) = Keeps old.bytes new.bytes × (new.failures ≡ counted old.failures)

-- one of the two counts rises by one
abbrev pub Counts : ℕ → ℕ → ℕ → ℕ → WriteFault → Type 0
Counts failures interruptions failed interrupted Interrupted = (failed ≡ failures) × (interrupted ≡ interruptions + 1) × (interrupted < 2 ^ 64)
Counts failures interruptions failed interrupted Failed = (failed ≡ counted failures) × (interrupted ≡ interruptions)
