-- How the command `play` ends.
use Rattle.std.specs.Prelude.{◌≡◌, ◌⊎◌, ℕ, Bool, ◌||◌, false, List, [], Option, None, Some, Result, Ok, Err, codes, ◌++◌, if◌then◌else◌, is_some, map, string_bytes, unwrap_or}
use Rattle.std.specs.Borrow.{Bor}
use Rattle.std.specs.Option.{option_map_or}
use Rattle.std.specs.Str.{bytes_eq}
use Rattle.cpm_run.specs.declared.arriving.Arrival.{Arrival}
use Rattle.cpm_run.specs.declared.arriving.PlayEnd.{PlayEnd}
use Rattle.cpm_run.specs.declared.arriving.PlayEnd.TheVariants as play
use Rattle.cpm_console.specs.declared.codes.Codes.{Codes}
use Rattle.cpm_console.specs.declared.codes.Codes.TheVariants.{Plain, Adm3a, Vt52}
use Rattle.cpm_console.specs.declared.codes.Pending.{Pending}
use Rattle.cpm_console.specs.declared.codes.Pending.TheVariants.{Nothing}
use Rattle.host.specs.Streams.Stream.{Stream}
use Rattle.host.specs.Streams.Writing.{Flushed}
use Rattle.host.specs.declared.streams.writing.WriteFailed.{WriteFailed}
use Rattle.z80dev_commands.specs.declared.job.Play.{Play}
use Rattle.host.specs.End.{Tells, end_status}
use Rattle.host.specs.Files.{Folder, Stores}
use Rattle.host.specs.declared.end.End.{End}
use Rattle.host.specs.declared.end.End.TheVariants as end
use Rattle.host.specs.Ending.{over_text}
use Rattle.host.specs.Paths.{names_work}
use Rattle.host.specs.Reading.{IsNotRead, IsRead}
use Rattle.z80dev_jobs.specs.Runs.Running.{ClaimsDisk, EndsBefore, IsDiskNotClaimed, IsKept, IsNoDisk, ReportsWritten, lines_in}
use Rattle.host.specs.Reporting.{either}
use Rattle.host.specs.World.{World}
use Rattle.z80dev_jobs.specs.declared.runs.running.Inputs.{Inputs}
use Rattle.cpm_console.specs.Seat.{Seat}
use Rattle.host.specs.SamePath.{is_same_path}
use Rattle.z80dev_run.specs.Desk.{seat_of}
use Rattle.z80dev_run.specs.declared.desk.Keys.{Keys}
use Rattle.z80dev_run.specs.declared.desk.Keys.TheVariants.{Raw, Lines}
use Rattle.machine_history.specs.declared.recorded.Recorded.{Recorded}
use Rattle.z80dev_run.specs.Ending.{Concludes}
use Rattle.z80dev_run.specs.Program.{IsPlayedRan, IsReplayedRan}
use Rattle.machine_history.specs.Recorded.{IsNoRecord, IsRecord, record_text}

-- ---- the words

-- whose screen codes a word of `--terminal` names
abbrev pub codes_named : List ℕ → Option Codes
codes_named word =
    if bytes_eq word (codes "adm3a") then Some Adm3a
    else if bytes_eq word (codes "vt52") then Some Vt52
    else if bytes_eq word (codes "none") then Some Plain
    else None

-- those of the ADM-3A if none are named
abbrev pub codes_of : Option (Bor (List ℕ)) → Codes
codes_of None = Adm3a
codes_of (Some word) = unwrap_or (codes_named word.now) Adm3a

abbrev pub bad_terminal : Option (Bor (List ℕ)) → Option (List ℕ)
bad_terminal None = None
bad_terminal (Some word) = if is_some (codes_named word.now) then None else Some (codes "BadTerminal(" ++ word.now ++ codes ")")

-- the path names a file that is read: the program, the image or the record that is played again
abbrev pub is_read_by : Play → List ℕ → Bool
is_read_by p path =
    is_same_path path p.program.now || (option_map_or (λ disk. is_same_path path disk.now) p.disk false || option_map_or (λ played. is_same_path path played.now) p.replay false)

-- The path of the new record is one that is read, or ends as that of a program, a source or an image does.
abbrev pub bad_record : Play → Option (Bor (List ℕ)) → Option (List ℕ)
bad_record p None = None
bad_record p (Some path) = if is_read_by p path.now || names_work path.now then Some (over_text path.now) else None

-- the text for the first value that is wrong: the terminal, then the path of the record
abbrev pub bad_in_play : Play → Option (List ℕ)
bad_in_play p = either (bad_terminal p.terminal) (bad_record p p.record)

-- how keys come
abbrev pub keys_of : Bool → Keys
keys_of raw = if raw then Raw else Lines

-- how many steps a program may make if the command names no number
abbrev pub most_steps : ℕ
most_steps = 18446744073709551615

-- ---- the files

-- The image of the disk is claimed, if there is one; then the program is read. The first that is not read is the end.
abbrev pub ReadsPlayed : Play → Folder → Folder → Result Inputs End → Type 0
ReadsPlayed p old new (Ok inputs) = ClaimsDisk p.disk p.lock old new inputs.image.items (lines_in inputs) × IsRead old p.program.now inputs.program.items
ReadsPlayed p old new (Err e) = IsDiskNotClaimed p.disk p.lock old new e
    ⊎ ((mid : Folder) × (image : List ℕ) × (lines : Option (List ℕ)) × ClaimsDisk p.disk p.lock old mid image lines × IsNotRead mid new p.program.now e)

-- A file with this text is refused: it is the record of no session; or memory ran out.
abbrev pub RefusesRecord : List ℕ → List ℕ → End → Type 0
RefusesRecord text path (end.Refused said) = IsNoRecord text × (string_bytes said ≡ codes "BadRecord(" ++ path ++ codes ")")
RefusesRecord text path end.NoMemory = Unit {0}
RefusesRecord text path _ = ⊥

-- The record of an earlier session is read, if there is a path for it.
abbrev pub ReadsRecord : Option (Bor (List ℕ)) → Folder → Folder → Result (Option Recorded) End → Type 0
ReadsRecord None old new (Ok found) = (found ≡ None) × (new ≡ old)
ReadsRecord None old new (Err e) = ⊥
ReadsRecord (Some path) old new (Ok found) = (new ≡ old) × (text : List ℕ) × IsRead old path.now text × (recorded : Recorded) × (found ≡ Some recorded) × IsRecord text recorded.arrivals.items recorded.last
ReadsRecord (Some path) old new (Err e) = IsNotRead old new path.now e ⊎ ((new ≡ old) × (text : List ℕ) × IsRead old path.now text × RefusesRecord text path.now e)

-- The image, the program and the record are read.
abbrev pub ReadsSession : Play → Folder → Folder → Result (Inputs × Option Recorded) End → Type 0
ReadsSession p old new (Ok (inputs, recorded)) = (mid : Folder) × ReadsPlayed p old mid (Ok inputs) × ReadsRecord p.replay mid new (Ok recorded)
ReadsSession p old new (Err e) = ReadsPlayed p old new (Err e) ⊎ ((mid : Folder) × (inputs : Inputs) × ReadsPlayed p old mid (Ok inputs) × ReadsRecord p.replay mid new (Err e))

-- The session is written, if there is a path for it.
abbrev pub Records : Option (Bor (List ℕ)) → List Arrival → ℕ → Folder → Folder → Result Unit End → Type 0
Records None arrivals turns old new (Ok done) = new ≡ old
Records None arrivals turns old new (Err e) = ⊥
Records (Some path) arrivals turns old new (Ok done) = Stores old new (path.now, record_text arrivals turns) (Ok done)
Records (Some path) arrivals turns old new (Err (end.File at last)) = (at.now ≡ path.now) × (last.now ≡ []) × (failed : WriteFailed) × Stores old new (path.now, record_text arrivals turns) (Err failed)
Records (Some path) arrivals turns old new (Err e) = (e ≡ end.NoMemory) × (new ≡ old)

-- The image that a session leaves is kept; then the session is written. If the image cannot be kept, the session is not written.
abbrev pub KeepsPlayed : Play → List ℕ → List ℕ → List Arrival → ℕ → Folder → Folder → Result (Result Unit End) End → Type 0
KeepsPlayed p bytes image arrivals turns old new (Ok written) = (mid : Folder) × (done : Unit {0}) × IsKept p.disk bytes image old mid (Ok done) × Records p.record arrivals turns mid new written
KeepsPlayed p bytes image arrivals turns old new (Err e) = IsKept p.disk bytes image old new (Err e)

-- ---- the end

-- It is reported why the session ended. A program that finished and a person who left are status 0.
abbrev pub ConcludesPlay : PlayEnd → ℕ → Stream → Stream → ℕ → Type 0
ConcludesPlay (play.Run why) pc old new status = Concludes why pc old new status
ConcludesPlay play.Left pc old new status = (status ≡ 0) × (new ≡ old)
ConcludesPlay play.Failed pc old new status = (status ≡ 3) × Tells end.Stream old new
ConcludesPlay play.NoMemory pc old new status = (status ≡ 1) × Tells end.NoMemory old new

-- It is reported that the image cannot be written; or why the session ended, and then whether the session could be written.
abbrev pub ReportsPlay : Option (List ℕ) → Result (Result Unit End) End → PlayEnd → ℕ → Stream → Stream → ℕ → Type 0
ReportsPlay lines (Ok written) end pc old new status = (mid : Stream) × (first : ℕ) × ConcludesPlay end pc old mid first × ReportsWritten lines written first mid new status
ReportsPlay lines (Err e) end pc old new status = (status ≡ end_status e) × Tells e old new

-- how a session ended, once what a buffer held back is written out, or that failed
abbrev pub flushed_end : PlayEnd → Result Unit WriteFailed → PlayEnd
flushed_end end (Ok _) = end
flushed_end end (Err _) = play.Failed

abbrev pub EndsPlay : Play → Inputs → PlayEnd → ℕ → ℕ → List ℕ → List Arrival → Folder → Folder → Stream → Stream → ℕ → Type 0
EndsPlay p inputs end turns pc image arrivals old new before after status =
    (kept : Result (Result Unit End) End) × KeepsPlayed p inputs.image.items image arrivals turns old new kept × ReportsPlay (lines_in inputs) kept end pc before after status

-- A program is played; or it is played again, if there is a record.
abbrev pub IsSession : List ℕ → List (List ℕ) → List ℕ → ℕ → Option Recorded → Seat → PlayEnd → ℕ → ℕ → List ℕ → List Arrival → Seat → Type 0
IsSession file words image steps None before end turns pc left arrivals after = IsPlayedRan file words image steps before end turns pc left arrivals after
IsSession file words image steps (Some recorded) before end turns pc left arrivals after = IsReplayedRan file words image steps recorded.arrivals.items recorded.last before end turns pc left arrivals after

-- who sits at the streams of a world at the beginning
abbrev pub seated : Play → World → Seat
seated p world = seat_of (codes_of p.terminal) Nothing (keys_of p.raw) false world.input.left world.output.bytes

-- The program is run with its words on the disk for somebody at standard input and standard output; then the session ends. The streams do not tell
-- which screen codes and keys the seat at the end has, nor what is begun there. For no bytes all codes print nothing. So with any codes of the
-- beginning it is known what standard output has at the end: what it had, and then what is printed for the bytes that the program put. At last
-- what a buffer holds back of it is written out; if that fails, it is as if the screen had.
abbrev pub Plays : Play → Inputs → Option Recorded → Folder → World → World → ℕ → Type 0
Plays p inputs recorded claimed old new status =
    (end : PlayEnd) × (turns pc : ℕ) × (image : List ℕ) × (arrivals : List Arrival) × (whose : Codes) × (pending : Pending) × (keys : Keys) × (is_leaving : Bool)
    × (printed : Stream) × (flushed : Result Unit WriteFailed)
    × IsSession inputs.program.items (map (λ word. word.now) p.words.items) inputs.image.items (unwrap_or p.steps most_steps) recorded (seated p old)
    end turns pc image arrivals (seat_of whose pending keys is_leaving new.input.left printed.bytes)
    × Flushed printed new.output flushed × EndsPlay p inputs (flushed_end end flushed) turns pc image arrivals claimed new.folder old.errors new.errors status

-- `play`: the files are read, and the program is played. Standard input is read only while it is.
abbrev pub PlayEndsWith : Play → World → World → ℕ → Type 0
PlayEndsWith p old new status =
    ((e : End) × ReadsSession p old.folder new.folder (Err e) × (new.input ≡ old.input) × EndsBefore e old new status)
    ⊎ ((inputs : Inputs) × (recorded : Option Recorded) × (claimed : Folder) × ReadsSession p old.folder claimed (Ok (inputs, recorded))
    × (((e : End) × IsNoDisk inputs.image.items e × (new.folder ≡ claimed) × (new.input ≡ old.input) × EndsBefore e old new status)
    ⊎ Plays p inputs recorded claimed old new status))
