-- The line of an end is written on standard error.
use Rattle.std.proofs.Common.{List, ℕ, Option, None, Some, Result, Ok, Err, inl, inr}
use Rattle.host.specs.Streams.Stream.{Stream}
use Rattle.host.specs.declared.streams.writing.WriteFailed.{WriteFailed}
use Rattle.host.specs.End.{TellsOf}
use Rattle.host.specs.Private.Steps.{PutsLine}

-- It is, whole or in part, whether the stream failed or not.
pub told : (text : Option (List ℕ)) (old new : Stream) (result : Result Unit WriteFailed) → PutsLine text old new result → TellsOf text old new
told None old new result same = same
told (Some text) old new (Ok _) put = inl put
told (Some text) old new (Err _) put = inr put
