-- How the command `debug` ends.
use Rattle.std.specs.Prelude.{◌≡◌, ◌⊎◌, ℕ, List, [], Option, None, Some, Result, Ok, Err, Vec, codes, length, map, unwrap_or}
use Rattle.std.specs.Borrow.{Bor}
use Rattle.std.specs.Global.{Global}
use Rattle.cpm_run.specs.declared.arriving.Arrival.{Arrival}
use Rattle.cpm_run.specs.declared.fault.StartFault.{StartFault}
use Rattle.cpm_run.specs.declared.fault.StartFault.TheVariants as start
use Rattle.debugger.specs.Conversation.{Debugs}
use Rattle.debugger.specs.declared.conversation.Broken.TheVariants as broken
use Rattle.debugger.specs.declared.debugging.DebugFault.{DebugFault}
use Rattle.debugger.specs.declared.debugging.DebugFault.TheVariants as debug
use Rattle.z80dev_commands.specs.declared.job.Debugging.{Debugging}
use Rattle.host.specs.End.{Tells, end_status}
use Rattle.host.specs.Files.{Folder}
use Rattle.host.specs.declared.end.End.{End}
use Rattle.host.specs.declared.end.End.TheVariants as end
use Rattle.host.specs.Reading.{IsNotRead, IsNotReadIfGiven, IsRead, IsReadIfGiven, bytes_in}
use Rattle.z80dev_jobs.specs.Runs.Playing.{ReadsRecord}
use Rattle.z80dev_jobs.specs.Runs.Running.{IsNotReady, IsRefusedAs}
use Rattle.z80dev_jobs.specs.Runs.Telling.{AreKnown}
use Rattle.host.specs.World.{World}
use Rattle.z80dev_jobs.specs.declared.runs.running.Inputs.{Inputs}
use Rattle.z80dev_run.specs.Labelled.{Known}
use Rattle.z80dev_run.specs.Program.{IsDebuggedRun}
use Rattle.machine_history.specs.declared.recorded.Recorded.{Recorded}

-- a file has these bytes, if its path is given; no path is no bytes
abbrev pub IsReadOrNone : Folder → Option (Bor (List ℕ)) → List ℕ → Type 0
IsReadOrNone folder None bytes = bytes ≡ []
IsReadOrNone folder (Some path) bytes = IsRead folder path.now bytes

-- The image is read, if its path is given; then the program; then the labels, the listing and what is typed, if their paths are given. The first
-- that is not read is the end.
abbrev pub ReadsDebugged : Debugging → Folder → Folder → Result Inputs End → Type 0
ReadsDebugged debugging old new (Ok inputs) = (new ≡ old) × IsReadOrNone old debugging.disk inputs.image.items × IsRead old debugging.program.now inputs.program.items
    × IsReadIfGiven old debugging.labels inputs.labels × IsReadIfGiven old debugging.list inputs.list × IsReadOrNone old debugging.input inputs.typed.items
ReadsDebugged debugging old new (Err e) = IsNotReadIfGiven old new debugging.disk e
    ⊎ ((image : List ℕ) × IsReadOrNone old debugging.disk image × (IsNotRead old new debugging.program.now e
    ⊎ ((program : List ℕ) × IsRead old debugging.program.now program × (IsNotReadIfGiven old new debugging.labels e
    ⊎ ((labels : Option (Vec ℕ Global)) × IsReadIfGiven old debugging.labels labels × (IsNotReadIfGiven old new debugging.list e
    ⊎ ((list : Option (Vec ℕ Global)) × IsReadIfGiven old debugging.list list × IsNotReadIfGiven old new debugging.input e)))))))

-- These are read, and then the record of a session, if its path is given.
abbrev pub ReadsRecorded : Debugging → Folder → Folder → Result (Inputs × Option Recorded) End → Type 0
ReadsRecorded debugging old new (Ok read) = (mid : Folder) × ReadsDebugged debugging old mid (Ok read.0) × ReadsRecord debugging.replay mid new (Ok read.1)
ReadsRecorded debugging old new (Err e) = ReadsDebugged debugging old new (Err e)
    ⊎ ((mid : Folder) × (inputs : Inputs) × ReadsDebugged debugging old mid (Ok inputs) × ReadsRecord debugging.replay mid new (Err e))

-- the bytes of a record; without one there are none
abbrev pub arrivals_in : Option Recorded → List Arrival
arrivals_in None = []
arrivals_in (Some recorded) = recorded.arrivals.items

-- how the command ends if the program cannot be started
abbrev pub IsStartEnd : StartFault → End → Type 0
IsStartEnd start.ComTooLong e = IsRefusedAs (codes "ComTooLong") e
IsStartEnd start.TailTooLong e = IsRefusedAs (codes "TailTooLong") e
IsStartEnd start.NoMemory e = e ≡ end.NoMemory

-- how the command ends if the program was debugged, or could not be
abbrev pub IsDebugEnd : Result Unit DebugFault → End → Type 0
IsDebugEnd (Ok _) e = e ≡ end.Done
IsDebugEnd (Err (debug.Start fault)) e = IsStartEnd fault e
IsDebugEnd (Err (debug.Broken broken.NoMemory)) e = e ≡ end.NoMemory
IsDebugEnd (Err (debug.Broken fault)) e = e ≡ end.Stream

-- nothing is read from standard input, and nothing is printed
abbrev pub IsQuiet : World → World → Type 0
IsQuiet old new = (new.input ≡ old.input) × (new.output ≡ old.output)

abbrev pub debugged_words : Debugging → List (List ℕ)
debugged_words debugging = map (λ word. word.now) debugging.words.items

-- The program is debugged with its words, by the lines of standard input: on the disk of the image, with what is typed, with the bytes of the
-- record, with its labels and with its listing. No listing is an empty one.
abbrev pub IsDebugged : Debugging → Inputs → Option Recorded → World → World → End → Type 0
IsDebugged debugging inputs recorded old new e = (known : Known) × AreKnown (bytes_in inputs.labels) (length inputs.program.items) known × (result : Result Unit DebugFault)
    × Debugs inputs.program.items (debugged_words debugging) old.output new.output new.input.failed new.input.reads result
    × IsDebuggedRun inputs.program.items (debugged_words debugging) inputs.image.items inputs.typed.items (arrivals_in recorded) known.labels
    (unwrap_or (bytes_in inputs.list) []) old.input.left new.input.left old.output new.output result
    × IsDebugEnd result e

-- `debug`: the files are read, and the program is debugged. No file is written.
abbrev pub DebugEndsBy : Debugging → World → World → End → Type 0
DebugEndsBy debugging old new e = (ReadsRecorded debugging old.folder new.folder (Err e) × IsQuiet old new)
    ⊎ ((read : Inputs × Option Recorded) × ReadsRecorded debugging old.folder new.folder (Ok read)
    × ((IsNotReady read.0 e × IsQuiet old new) ⊎ IsDebugged debugging read.0 read.1 old new e))

abbrev pub DebugEnds : Debugging → World → World → ℕ → Type 0
DebugEnds debugging old new status = (e : End) × DebugEndsBy debugging old new e × (status ≡ end_status e) × Tells e old.errors new.errors
