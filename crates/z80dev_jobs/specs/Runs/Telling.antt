-- What `run` tells about a run, besides what the program prints.
use Rattle.std.specs.Prelude.{◌≡◌, ◌≢◌, ◌⊎◌, ◌==◌, ◌&&◌, ◌||◌, not, ℕ, ◌+◌, Bool, true, false, List, [], ◌∷◌, ◌++◌, Option, None, Some, Result, Ok, Err, Vec, codes, if◌then◌else◌, is_some, length, map, option_map, string_bytes, unwrap_or}
use Rattle.std.specs.Borrow.{Bor}
use Rattle.std.specs.Global.{Global}
use Rattle.std.specs.List.{flat_map}
use Rattle.std.specs.Option.{option_or}
use Rattle.asm_macro.specs.Texts.{source_lines}
use Rattle.host.specs.SamePath.{is_same_path}
use Rattle.cpm_run.specs.Records.{last_items}
use Rattle.cpm_run.specs.declared.ending.Why.{Why}
use Rattle.cpm_run.specs.declared.ending.Why.TheVariants as why
use Rattle.cpm_run.specs.declared.recording.Record.{Record}
use Rattle.cpm_run.specs.declared.recording.Wish.{Wish}
use Rattle.cpm_run.specs.declared.tracing.Left.{Left}
use Rattle.disassembler.specs.Reading.{AreLabels, label_parts}
use Rattle.disassembler.specs.Faults.{disassembly_fault_text}
use Rattle.disassembler.specs.declared.fault.DisassemblyFault.{DisassemblyFault}
use Rattle.disassembler.specs.declared.fault.DisassemblyFault.TheVariants as fault
use Rattle.disassembler.specs.declared.labels.Label.{Label}
use Rattle.host.specs.Streams.Stream.{Stream}
use Rattle.host.specs.declared.streams.writing.WriteFailed.{WriteFailed}
use Rattle.z80_cpu.specs.declared.registers.Cpu.{Cpu}
use Rattle.z80dev_commands.specs.declared.job.Run.{Run}
use Rattle.z80dev_commands.specs.declared.job.Telling.{Telling}
use Rattle.host.specs.Files.{Folder, Stores}
use Rattle.host.specs.declared.end.End.{End}
use Rattle.host.specs.declared.end.End.TheVariants as end
use Rattle.host.specs.Ending.{over_text}
use Rattle.host.specs.Paths.{names_work}
use Rattle.z80dev_jobs.specs.declared.runs.telling.Told.{Told}
use Rattle.z80dev_run.specs.Coverage.{coverage_line}
use Rattle.z80dev_run.specs.Labelled.{Known}
use Rattle.z80dev_run.specs.Lines.{IsTrace}
use Rattle.z80dev_run.specs.Profile.{IsProfile}
use Rattle.z80dev_run.specs.Program.{IsTracedRan}
use Rattle.z80dev_run.specs.Registers.{is_lost, machine_text}
use Rattle.z80dev_run.specs.Reports.{IsTraceFile}

-- ---- what is asked for

-- how many of the last steps are printed if the run is stopped
abbrev pub last_count : Telling → ℕ
last_count telling = unwrap_or telling.last 0

-- nothing is to be told
abbrev pub is_silent : Telling → Bool
is_silent telling = not telling.registers && ((last_count telling == 0) && (not (is_some telling.trace) && not (is_some telling.profile)))

-- What a run is to keep. The last three steps say from where the program came to its end, so three more are kept than are asked for.
abbrev pub wish_of : Telling → Wish
wish_of telling = record {
  first = if is_some telling.trace then 1000000 else 0;
  last = if telling.registers || not (last_count telling == 0) then last_count telling + 3 else 0;
  counts = is_some telling.profile;
}

-- ---- files that may not be written

-- the path names the same file as this one, if one is given
abbrev pub is_given : List ℕ → Option (Bor (List ℕ)) → Bool
is_given path None = false
is_given path (Some other) = is_same_path path other.now

-- the run reads a file of this path: its disk, its program, its labels or its listing
abbrev pub reads_file : Run → List ℕ → Bool
reads_file run path = is_given path run.disk || (is_same_path path run.program.now || (is_given path run.telling.labels || is_given path run.telling.list))

-- the run writes no file of this path: it reads it, or it ends as that of a program, a source or an image does
abbrev pub is_kept : Run → List ℕ → Bool
is_kept run path = reads_file run path || names_work path

abbrev pub if_read : Bool → List ℕ → Option (List ℕ)
if_read is_read path = if is_read then Some path else None

abbrev pub trace_over : Run → Option (Bor (List ℕ)) → Option (List ℕ)
trace_over run None = None
trace_over run (Some path) = if_read (is_kept run path.now) path.now

abbrev pub profile_over : Run → Option (Bor (List ℕ)) → Option (List ℕ)
profile_over run None = None
profile_over run (Some path) = if_read (is_kept run path.now || is_given path.now run.telling.trace) path.now

-- the option that would do nothing: labels if no address is printed, or a listing if there is no profile
abbrev pub unused : Telling → Option (List ℕ)
unused telling =
    if is_some telling.labels && is_silent telling then Some (codes "--labels") else if is_some telling.list && not (is_some telling.profile) then Some (codes "--list") else None

abbrev pub unused_text : List ℕ → List ℕ
unused_text option = codes "Unused(" ++ option ++ codes ")"

-- Why a run may not tell what it is asked for: the path of the trace is one that it reads, or ends as that of a program, a source or an image does; or that of the profile does, or is that
-- of the trace; or an option would do nothing.
abbrev pub why_not_told : Run → Option (List ℕ)
why_not_told run =
    option_or (option_map over_text (option_or (trace_over run run.telling.trace) (profile_over run run.telling.profile))) (option_map unused_text (unused run.telling))

-- ---- labels

-- The labels of a program of this size: those of a file of labels, if there is one.
abbrev pub AreKnown : Option (List ℕ) → ℕ → Known → Type 0
AreKnown None size known = known ≡ record { labels = []; size = size }
AreKnown (Some text) size known = (found : Vec Label Global) × AreLabels text (Ok found) × (known ≡ record { labels = map label_parts found.items; size = size })

-- Why there are none: the number of the first line that is no label; or memory ran out.
abbrev pub AreNotKnown : Option (List ℕ) → End → Type 0
AreNotKnown None (end.Refused said) = ⊥
AreNotKnown (Some text) (end.Refused said) = (why : DisassemblyFault) × (why ≢ fault.NoMemory) × AreLabels text (Err why) × (string_bytes said ≡ disassembly_fault_text why)
AreNotKnown text end.NoMemory = Unit {0}
AreNotKnown text _ = ⊥

-- ---- what a run tells

-- the bytes of a file, if its path is given
abbrev pub IsFileIfGiven : (List ℕ → Type 0) → Option (Bor (List ℕ)) → Option (Vec ℕ Global) → Type 0
IsFileIfGiven Is None bytes = bytes ≡ None
IsFileIfGiven Is (Some path) bytes = (text : Vec ℕ Global) × (bytes ≡ Some text) × Is text.items

-- whether a run has gone wrong: it was stopped, or its program is lost
abbrev pub is_wrong : Known → Why → Cpu → Record → Bool
is_wrong known why.Finished cpu kept = is_lost known cpu kept.last.items
is_wrong known end cpu kept = true

-- the lines of the last steps, if the run has gone wrong
abbrev pub AreLastLines : Telling → Known → Bool → Record → List ℕ → Type 0
AreLastLines telling known false kept lines = lines ≡ []
AreLastLines telling known true kept lines = IsTrace known (last_items (last_count telling) kept.last.items) lines

abbrev pub registers_lines : Telling → Known → Left → Record → List ℕ
registers_lines telling known left kept = if telling.registers then machine_text known left kept.last.items else []

-- A profile by addresses; or with a listing by its lines.
abbrev pub IsProfileOf : Option (List ℕ) → Known → List ℕ → ℕ → List ℕ → Type 0
IsProfileOf None known counts turns text = IsProfile known counts turns text
IsProfileOf (Some listing) known counts turns text = text ≡ flat_map (coverage_line counts) (source_lines listing)

pub record IsNothingTold (told : Told) : Type 0 where
  pub trace : told.trace ≡ None
  pub profile : told.profile ≡ None
  pub lines : told.lines.items ≡ []

pub record IsTold (telling : Telling) (known : Known) (listing : Option (List ℕ)) (end : Why) (turns : ℕ) (left : Left) (kept : Record) (told : Told) : Type 0 where
  pub trace : IsFileIfGiven (IsTraceFile known kept.first.items turns) telling.trace told.trace
  pub profile : IsFileIfGiven (IsProfileOf listing known kept.counts.items turns) telling.profile told.profile
  pub last : List ℕ
  pub last_lines : AreLastLines telling known (is_wrong known end left.cpu kept) kept last
  pub lines : told.lines.items ≡ last ++ registers_lines telling known left kept

-- What a run tells that ended in this state and has kept this. A program that is not started tells nothing.
abbrev pub IsToldOf : Telling → Known → Option (List ℕ) → Why → ℕ → Option Left → Option Record → Told → Type 0
IsToldOf telling known listing end turns None kept told = IsNothingTold told
IsToldOf telling known listing end turns (Some state) None told = ⊥
IsToldOf telling known listing end turns (Some left) (Some kept) told = IsTold telling known listing end turns left kept told

-- What a run tells: nothing if it is asked for nothing, otherwise what it has kept of its steps.
abbrev pub IsToldRun : Telling → Known → Option (List ℕ) → List ℕ → List (List ℕ) → List ℕ → List ℕ → Stream → ℕ → Why → ℕ → Told → Type 0
IsToldRun telling known listing file words image input before steps end turns told =
    ((is_silent telling ≡ true) × IsNothingTold told)
    ⊎ ((is_silent telling ≡ false) × (state : Option Left) × (kept : Option Record)
    × IsTracedRan file words image input before steps (wish_of telling) end turns state kept × IsToldOf telling known listing end turns state kept told)

-- ---- the files that are written

-- A file is written if there are bytes for it; if it cannot be written, the end names its path.
abbrev pub WritesFile : Option (Bor (List ℕ)) → Option (Vec ℕ Global) → Folder → Folder → Result Unit End → Type 0
WritesFile (Some path) (Some bytes) old new (Ok done) = Stores old new (path.now, bytes.items) (Ok done)
WritesFile (Some path) (Some bytes) old new (Err (end.File at last)) = (at.now ≡ path.now) × (last.now ≡ []) × (failed : WriteFailed) × Stores old new (path.now, bytes.items) (Err failed)
WritesFile (Some path) (Some bytes) old new (Err e) = ⊥
WritesFile path bytes old new (Ok done) = new ≡ old
WritesFile path bytes old new (Err e) = ⊥

-- The trace is written, then the profile; the first that cannot be is the end.
abbrev pub WritesTold : Telling → Told → Folder → Folder → Result Unit End → Type 0
WritesTold telling told old new (Ok done) = (mid : Folder) × WritesFile telling.trace told.trace old mid (Ok done) × WritesFile telling.profile told.profile mid new (Ok done)
WritesTold telling told old new (Err e) = WritesFile telling.trace told.trace old new (Err e)
    ⊎ ((mid : Folder) × (done : Unit {0}) × WritesFile telling.trace told.trace old mid (Ok done) × WritesFile telling.profile told.profile mid new (Err e))
