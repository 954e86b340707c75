-- How the command `run` ends.
use Rattle.std.specs.Prelude.{◌≡◌, ◌≢◌, ◌⊎◌, ℕ, Bool, ◌&&◌, not, IfSome, List, [], Option, None, Some, Result, Ok, Err, Vec, length, map, option_map, string_bytes, unwrap_or}
use Rattle.std.specs.Borrow.{Bor}
use Rattle.std.specs.Global.{Global}
use Rattle.cpm_disk.specs.declared.control.stop.Stop.TheVariants as stop
use Rattle.cpm_run.specs.declared.ending.Why.{Why}
use Rattle.cpm_run.specs.declared.ending.Why.TheVariants as why
use Rattle.host.specs.Streams.Stream.{Stream}
use Rattle.host.specs.Streams.Writing.{Flushed}
use Rattle.host.specs.declared.streams.writing.WriteFailed.{WriteFailed}
use Rattle.z80dev_disk.specs.Disks.{IsMounted}
use Rattle.z80dev_disk.specs.Refusals.{refusal_text}
use Rattle.z80dev_disk.specs.declared.refusal.Refusal.{Refusal}
use Rattle.z80dev_commands.specs.declared.job.Run.{Run}
use Rattle.z80dev_commands.specs.declared.job.Telling.{Telling}
use Rattle.host.specs.End.{Tells, end_status}
use Rattle.host.specs.Files.{Folder}
use Rattle.host.specs.declared.end.End.{End}
use Rattle.host.specs.declared.end.End.TheVariants as end
use Rattle.host.specs.Claims.{HasClaimed, IsNotClaimed, KeepsFile, warnings}
use Rattle.host.specs.Reporting.{TellsLine, PutsLines}
use Rattle.z80dev_jobs.specs.Runs.Input.{IsInputUnread, ReadsInput}
use Rattle.host.specs.Reading.{IsNotRead, IsNotReadIfGiven, IsRead, IsReadIfGiven, Reader, bytes_in}
use Rattle.z80dev_jobs.specs.Runs.Telling.{AreKnown, AreNotKnown, IsToldRun, WritesTold, why_not_told}
use Rattle.host.specs.World.{World}
use Rattle.z80dev_jobs.specs.declared.runs.running.Inputs.{Inputs}
use Rattle.z80dev_jobs.specs.declared.runs.telling.Told.{Told}
use Rattle.z80dev_run.specs.Ending.{Concludes}
use Rattle.z80dev_run.specs.Labelled.{Known}
use Rattle.z80dev_run.specs.Program.{IsRan}

-- The image of the disk is claimed, if there is one: these are its bytes and the lines that warn of it. No image is no bytes.
abbrev pub ClaimsDisk : Option (Bor (List ℕ)) → Bool → Folder → Folder → List ℕ → Option (List ℕ) → Type 0
ClaimsDisk None wanted old new bytes lines = (new ≡ old) × (bytes ≡ []) × (lines ≡ None)
ClaimsDisk (Some path) wanted old new bytes lines = (is_held : Bool) × HasClaimed old new path.now wanted is_held bytes × (lines ≡ warnings path.now (length bytes) (wanted && not is_held))

abbrev pub IsDiskNotClaimed : Option (Bor (List ℕ)) → Bool → Folder → Folder → End → Type 0
IsDiskNotClaimed None wanted old new e = ⊥
IsDiskNotClaimed (Some path) wanted old new e = IsNotClaimed old new path.now wanted e

abbrev pub lines_in : Inputs → Option (List ℕ)
lines_in inputs = option_map string_bytes inputs.warnings

-- The image of the disk is claimed, if there is one; then the program is read, then the labels and the listing, if their paths are given, then standard input. The
-- first that is not read is the end.
abbrev pub ReadsInputs : Run → Folder → Folder → Reader → Reader → Result Inputs End → Type 0
ReadsInputs run old new before after (Ok inputs) = ClaimsDisk run.disk run.lock old new inputs.image.items (lines_in inputs)
    × IsRead old run.program.now inputs.program.items × IsReadIfGiven old run.telling.labels inputs.labels × IsReadIfGiven old run.telling.list inputs.list × ReadsInput before after (Ok inputs.typed)
ReadsInputs run old new before after (Err e) = (IsDiskNotClaimed run.disk run.lock old new e × (after ≡ before))
    ⊎ ((mid : Folder) × (image : List ℕ) × (lines : Option (List ℕ)) × ClaimsDisk run.disk run.lock old mid image lines
    × ((IsNotRead mid new run.program.now e × (after ≡ before)) ⊎ ((program : List ℕ) × IsRead old run.program.now program
    × ((IsNotReadIfGiven mid new run.telling.labels e × (after ≡ before))
    ⊎ ((labels : Option (Vec ℕ Global)) × IsReadIfGiven old run.telling.labels labels
    × ((IsNotReadIfGiven mid new run.telling.list e × (after ≡ before))
    ⊎ ((list : Option (Vec ℕ Global)) × IsReadIfGiven old run.telling.list list × (new ≡ mid) × IsInputUnread before after e)))))))

-- The bytes are no disk, which is the end; or memory ran out.
abbrev pub IsNoDisk : List ℕ → End → Type 0
IsNoDisk image (end.Refused said) = (no : Refusal) × IsMounted image (Err no) × (string_bytes said ≡ refusal_text no)
IsNoDisk image end.NoMemory = Unit {0}
IsNoDisk image _ = ⊥

-- The image that a run leaves replaces the file of its disk, if it has one, unless the file has these bytes.
abbrev pub IsKept : Option (Bor (List ℕ)) → List ℕ → List ℕ → Folder → Folder → Result Unit End → Type 0
IsKept None bytes image old new (Ok _) = new ≡ old
IsKept None bytes image old new (Err _) = ⊥
IsKept (Some path) bytes image old new result = KeepsFile path.now bytes image old new result

-- why a run ends: output that cannot be flushed is a fault of the console
abbrev pub why_at : Why → Result Unit WriteFailed → Why
why_at end (Ok _) = end
why_at end (Err _) = why.Stopped stop.ConsoleFault

-- lines that warn are put after a run whose program ended by itself
abbrev pub WarnsAfter : Option (List ℕ) → Stream → Stream → ℕ → Type 0
WarnsAfter lines old new status = (status ≡ 0 → TellsLine lines old new) × (status ≢ 0 → new ≡ old)

-- the lines that a run tells; None if memory ran out for what it tells
abbrev pub told_lines : Option Told → List ℕ
told_lines None = []
told_lines (Some told) = told.lines.items

-- After what a run tells come the lines that warn, if its program ended by itself; or it is reported that what it tells could not be written, and
-- the status is that of this end.
abbrev pub ReportsWritten : Option (List ℕ) → Result Unit End → ℕ → Stream → Stream → ℕ → Type 0
ReportsWritten lines (Ok _) concluded old new status = (status ≡ concluded) × WarnsAfter lines old new concluded
ReportsWritten lines (Err e) concluded old new status = (status ≡ end_status e) × Tells e old new

-- It is reported that the image cannot be written; or why the run ended, with the last steps and the registers, and then whether what the run tells
-- could be written.
abbrev pub ReportsRun : Option (List ℕ) → List ℕ → Result (Result Unit End) End → Why → ℕ → Stream → Stream → ℕ → Type 0
ReportsRun lines told (Ok written) end pc old new status =
    (concluded : Stream) × (then : Stream) × (first : ℕ) × Concludes end pc old concluded first × PutsLines told concluded then × ReportsWritten lines written first then new status
ReportsRun lines told (Err e) end pc old new status = (status ≡ end_status e) × Tells e old new

-- What a run tells is written, or memory has run out for it.
abbrev pub WritesIfTold : Telling → Option Told → Folder → Folder → Result Unit End → Type 0
WritesIfTold telling (Some told) old new result = WritesTold telling told old new result
WritesIfTold telling None old new (Ok _) = ⊥
WritesIfTold telling None old new (Err e) = (e ≡ end.NoMemory) × (new ≡ old)

-- The image that a run leaves is kept; then the files of its trace and its profile are written. If the image cannot be kept, none is written.
abbrev pub KeepsAll : Run → List ℕ → List ℕ → Option Told → Folder → Folder → Result (Result Unit End) End → Type 0
KeepsAll run bytes image told old new (Ok written) = (mid : Folder) × (done : Unit {0}) × IsKept run.disk bytes image old mid (Ok done) × WritesIfTold run.telling told mid new written
KeepsAll run bytes image told old new (Err e) = IsKept run.disk bytes image old new (Err e)

-- What the program printed is flushed, the image that it leaves is kept, what the run tells is written, and it is reported why it stopped, or that
-- a file could not be written. Whether the image is kept before what was printed is flushed, this does not say.
abbrev pub EndsRun : Run → Inputs → Why → ℕ → List ℕ → Option Told → Stream → Stream → Folder → Folder → Stream → Stream → ℕ → Type 0
EndsRun run inputs end pc image told printed output old new before after status =
    (flushed : Result Unit WriteFailed) × (kept : Result (Result Unit End) End) × Flushed printed output flushed × KeepsAll run inputs.image.items image told old new kept
    × ReportsRun (lines_in inputs) (told_lines told) kept (why_at end flushed) pc before after status

-- how many steps a run may take if the command names no number
abbrev pub default_steps : ℕ
default_steps = 100000000

-- The program is run with its words on the disk, with the text of standard input typed; then the run ends.
abbrev pub Runs : Run → Known → Inputs → Folder → World → World → ℕ → Type 0
Runs run known inputs claimed old new status =
    (end : Why) × (turns pc : ℕ) × (image : List ℕ) × (printed : Stream) × (told : Option Told)
    × IsRan inputs.program.items (words_of run) inputs.image.items inputs.typed.items old.output (steps_of run) end turns pc image printed
    × IfSome told (IsToldRun run.telling known (bytes_in inputs.list) inputs.program.items (words_of run) inputs.image.items inputs.typed.items old.output (steps_of run) end turns)
    × EndsRun run inputs end pc image told printed new.output claimed new.folder old.errors new.errors status
  where
    words_of : Run → List (List ℕ)
    words_of run = map (λ word. word.now) run.words.items

    steps_of : Run → ℕ
    steps_of run = unwrap_or run.steps default_steps

-- an end before the run, which changes no file and prints nothing
abbrev pub EndsBefore : End → World → World → ℕ → Type 0
EndsBefore e old new status = (new.output ≡ old.output) × (status ≡ end_status e) × Tells e old.errors new.errors

-- The image is no disk; or it is one, and the labels are refused.
abbrev pub IsNotReady : Inputs → End → Type 0
IsNotReady inputs e = IsNoDisk inputs.image.items e ⊎ ((disk : _) × IsMounted inputs.image.items (Ok disk) × AreNotKnown (bytes_in inputs.labels) e)

-- The inputs are read, and the program is run.
abbrev pub RunEndsWith : Run → World → World → ℕ → Type 0
RunEndsWith run old new status =
    ((e : End) × ReadsInputs run old.folder new.folder old.input new.input (Err e) × EndsBefore e old new status)
    ⊎ ((inputs : Inputs) × (claimed : Folder) × ReadsInputs run old.folder claimed old.input new.input (Ok inputs)
    × (((e : End) × IsNotReady inputs e × (new.folder ≡ claimed) × EndsBefore e old new status)
    ⊎ ((known : Known) × AreKnown (bytes_in inputs.labels) (length inputs.program.items) known × Runs run known inputs claimed old new status)))

-- this text is the refusal, or memory ran out for it
abbrev pub IsRefusedAs : List ℕ → End → Type 0
IsRefusedAs why (end.Refused said) = string_bytes said ≡ why
IsRefusedAs why end.NoMemory = Unit {0}
IsRefusedAs why _ = ⊥

-- `run`: if it may not write what it is to tell, it refuses that before it reads a file. Otherwise the image is claimed, the program, the
-- labels, the listing and standard input are read, and the program is run.
abbrev pub RunEndsUnless : Option (List ℕ) → Run → World → World → ℕ → Type 0
RunEndsUnless None run old new status = RunEndsWith run old new status
RunEndsUnless (Some why) run old new status = (e : End) × IsRefusedAs why e × (new.folder ≡ old.folder) × (new.input ≡ old.input) × EndsBefore e old new status

abbrev pub RunEnds : Run → World → World → ℕ → Type 0
RunEnds run old new status = RunEndsUnless (why_not_told run) run old new status
