-- What the calls of a console answer, and what they leave.
use Rattle.std.specs.Prelude.{◌≡◌, ◌⊎◌, ℕ, [], ◌∷◌, Result, Ok, Err, ⊤}
use Rattle.cpm_console.specs.declared.error.ConsoleError.{ConsoleError}
use Rattle.cpm_console.specs.declared.error.ConsoleError.TheVariants.{EndOfInput, ConsoleFault}
use Rattle.cpm_console.specs.Dialog.{Dialog, Passes, Put, PassesUnfailed, Took}
use Rattle.host.specs.Streams.Stream.{counted}

-- Taking a byte: the next one is taken; or there is none; or the console failed and took nothing. A console answers a fault only if it
-- failed, and counts that once.
abbrev pub Gets : Dialog → Dialog → Result ℕ ConsoleError → Type 0
Gets old new (Ok byte) = PassesUnfailed old new (Took byte ∷ [])
Gets old new (Err EndOfInput) = (old.input ≡ []) × PassesUnfailed old new []
Gets old new (Err ConsoleFault) = (new.faults ≡ counted old.faults) × Passes old new []

-- Putting a byte: it is put; or the console failed, counted that once, and either put the byte or did not.
abbrev pub PutsByte : Dialog → Dialog → ℕ → Result ⊤ ConsoleError → Type 0
PutsByte old new byte (Ok done) = PassesUnfailed old new (Put byte ∷ [])
PutsByte old new byte (Err EndOfInput) = ⊥
PutsByte old new byte (Err ConsoleFault) = (new.faults ≡ counted old.faults) × (Passes old new [] ⊎ Passes old new (Put byte ∷ []))
