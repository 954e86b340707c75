-- How printing the file of a source ends.
use Rattle.std.specs.Prelude.{◌≡◌, ℕ, ◌<◌, ◌⊎◌, List, length, Option, None, Some, Result, Ok, Err}
use Rattle.common.specs.declared.limits.TheConstants.{LONGEST_TEXT}
use Rattle.host.specs.Streams.Stream.{Stream}
use Rattle.host.specs.Streams.Writing.{PrintsAll, PutsFront}
use Rattle.z80dev.specs.declared.fault.Fault.{Fault}
use Rattle.z80dev.specs.declared.fault.Fault.TheVariants as fault
use Rattle.z80dev.specs.FaultTexts.{fault_text}
use Rattle.z80dev.specs.Main.{IsBuildRefused, WithFile}

-- the exit status of an error: 3 for a file, 1 for a source that is refused
abbrev pub status_of : Fault → ℕ
status_of fault.File = 3
status_of (fault.Build refusal) = 1

-- the exit status of an end: 0 if there is no error
abbrev pub status_at : Result Unit Fault → ℕ
status_at (Ok _) = 0
status_at (Err fault) = status_of fault

-- what is reported for an end: nothing if there is no error
abbrev pub said_at : Result Unit Fault → Option (List ℕ)
said_at (Ok _) = None
said_at (Err fault) = Some (fault_text fault)

-- Why there is a file error: the source is too long, or reading it did not reach the end, and nothing is written; or
-- the writer failed on the line of the file.
abbrev pub IsFileFault : List ℕ → Type 0 → Stream → Stream → Type 0
IsFileFault text Cut old new = (((LONGEST_TEXT < length text) ⊎ Cut) × (new ≡ old)) ⊎ WithFile text (PutsFront old new)

-- How printing ends, given whether reading was cut short, and what was in the output before and is in it after.
abbrev pub PrintingEnds : List ℕ → Type 0 → Stream → Stream → Result Unit Fault → Type 0
PrintingEnds text Cut old new (Ok _) = WithFile text (PrintsAll old new)
PrintingEnds text Cut old new (Err (fault.Build refusal)) = IsBuildRefused text refusal × (new ≡ old)
PrintingEnds text Cut old new (Err fault.File) = IsFileFault text Cut old new
