-- How the command `run` ends after the image is written.
use Rattle.std.specs.Prelude.{◌≡◌, ◌⊎◌, ℕ, List, Result, codes}
use Rattle.host.specs.Streams.Stream.{Stream}
use Rattle.host.specs.Streams.Writing.{Puts, error_line}
use Rattle.host.specs.declared.streams.writing.WriteFailed.{WriteFailed}
use Rattle.cpm_run.specs.declared.ending.Why.{Why}
use Rattle.cpm_run.specs.declared.ending.Why.TheVariants as why
use Rattle.z80dev_run.specs.Stopped.{stopped_line}

-- These bytes were put: all of them are written, or the stream failed and only the first of them are.
abbrev pub WerePut : Stream → Stream → List ℕ → Type 0
WerePut old new bytes = (result : Result Unit WriteFailed) × Puts old new bytes result

-- the line that says why a run stopped was put, or the one that memory ran out for it
abbrev pub TellsStop : Why → ℕ → Stream → Stream → Type 0
TellsStop end pc old new = WerePut old new (stopped_line end pc) ⊎ WerePut old new (error_line (codes "NoMemory"))

-- Status 0 and no line if the program finished, otherwise status 1 and one line.
abbrev pub Concludes : Why → ℕ → Stream → Stream → ℕ → Type 0
Concludes why.Finished pc old new status = (status ≡ 0) × (new ≡ old)
Concludes end pc old new status = (status ≡ 1) × TellsStop end pc old new
