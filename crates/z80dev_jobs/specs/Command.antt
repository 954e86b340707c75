-- What the command `z80dev` does, whatever its words.
use Rattle.std.specs.Prelude.{◌≡◌, ◌≢◌, ◌⊎◌, ℕ, Bool, true, List, [], ◌++◌, Result, codes, decimal}
use Rattle.clap.specs.Words.{IsAmong, fault_of, takes}
use Rattle.clap.specs.declared.error.kind.ErrorKind.{ErrorKind}
use Rattle.clap.specs.declared.error.kind.ErrorKind.TheVariants as kind
use Rattle.host.specs.Streams.Stream.{Stream}
use Rattle.host.specs.Streams.Writing.{PrintsAll, PutsFront, error_line}
use Rattle.z80dev.specs.Pipe.{PrintingEnds, said_at, status_at}
use Rattle.z80dev.specs.Reading.{IsCutShort, OfText}
use Rattle.z80dev.specs.declared.fault.Fault.{Fault}
use Rattle.z80dev_commands.specs.Commands.{IsJob, IsMiscounted, z80dev}
use Rattle.z80dev_commands.specs.declared.job.Job.{Job}
use Rattle.z80dev_commands.specs.declared.job.Job.TheVariants.{Pipe, Asm, Link, Build, Explain, Check, Dis, Disk, Run, Debug, Play}
use Rattle.host.specs.End.{IsPut, Tells, TellsOf}
use Rattle.host.specs.declared.end.End.TheVariants as end
use Rattle.z80dev.specs.Disks.{DiskJobEnds}
use Rattle.z80dev.specs.Making.{AsmEnds, BuildEnds, CheckEnds, DisEnds, LinkEnds}
use Rattle.z80dev_jobs.specs.Runs.Debugging.{DebugEnds}
use Rattle.z80dev_jobs.specs.Explaining.{ExplainEnds}
use Rattle.z80dev_jobs.specs.Runs.Playing.{PlayEndsWith, bad_in_play}
use Rattle.z80dev_jobs.specs.Runs.Running.{RunEnds}
use Rattle.z80dev_jobs.specs.Words.{AreTexts, IsNotText}
use Rattle.z80dev.specs.Values.{bad_define, bad_in_build, bad_symbols}
use Rattle.z80dev_jobs.specs.Values.{bad_in_explain}
use Rattle.host.specs.World.{World}
use Rattle.host.specs.Reporting.{Reports, ReportsLine, ReportsLines, Untouched, LacksMemory, Judging}

-- Without words: the file of the source text on standard input is printed in hexadecimal.
abbrev pub PipeEnds : World → World → ℕ → Type 0
PipeEnds old new status = (new.folder ≡ old.folder) × OfText old.input.left (λ text. (e : Result Unit Fault) × (status ≡ status_at e)
    × PrintingEnds text (IsCutShort new.input.failed new.input.reads new.input.interruptions) old.output new.output e × TellsOf (said_at e) old.errors new.errors)

-- What each job does, given whether standard output is a terminal.
abbrev pub JobEnds : Job → Bool → World → World → ℕ → Type 0
JobEnds Pipe is_terminal old new status = PipeEnds old new status
JobEnds (Asm asm) is_terminal old new status = Judging (bad_define asm.shared) (ReportsLines (AsmEnds asm)) old new status
JobEnds (Link link) is_terminal old new status = Judging (bad_symbols link.symbols) (Reports (LinkEnds link)) old new status
JobEnds (Build build) is_terminal old new status = Judging (bad_in_build build) (ReportsLines (BuildEnds build)) old new status
JobEnds (Explain explain) is_terminal old new status = Judging (bad_in_explain explain) (Reports (ExplainEnds explain is_terminal)) old new status
JobEnds (Check check) is_terminal old new status = Reports (CheckEnds check.sizes.now check.cert.now) old new status
JobEnds (Dis dis) is_terminal old new status = Reports (DisEnds dis) old new status
JobEnds (Disk job) is_terminal old new status = ReportsLine (DiskJobEnds job) old new status
JobEnds (Run run) is_terminal old new status = RunEnds run old new status
JobEnds (Debug debugging) is_terminal old new status = DebugEnds debugging old new status
JobEnds (Play play) is_terminal old new status = Judging (bad_in_play play) (PlayEndsWith play) old new status

-- A word is not UTF-8.
abbrev pub RefusesWord : ℕ → Stream → Stream → Stream → Stream → ℕ → Type 0
RefusesWord n before after old new status = (status ≡ 2) × (after ≡ before) × IsPut old new (error_line (codes "word " ++ decimal n ++ codes " is not UTF-8"))

-- The help or the version is printed.
abbrev pub Shows : Stream → Stream → Stream → Stream → ℕ → Type 0
Shows before after old new status = (text : List ℕ)
    × (((status ≡ 0) × PrintsAll before after text × (new ≡ old)) ⊎ ((status ≡ 3) × PutsFront before after text × Tells end.Stream old new))

-- A line, or more, says what is wrong with the words.
abbrev pub RefusesUsage : Stream → Stream → Stream → Stream → ℕ → Type 0
RefusesUsage before after old new status = (status ≡ 2) × (after ≡ before) × (why : List ℕ) × (why ≢ []) × IsPut old new (error_line why)

-- the words ask for the help, or for the version
abbrev pub AsksToShow : ErrorKind → Type 0
AsksToShow k = (k ≡ kind.DisplayHelp) ⊎ (k ≡ kind.DisplayVersion)

-- what is done with words that ask for no job, by the kind of their fault
abbrev pub RefusesWords : ErrorKind → Stream → Stream → Stream → Stream → ℕ → Type 0
RefusesWords k before after old new status = (AsksToShow k × Shows before after old new status)
    ⊎ ((AsksToShow k → ⊥) × (k ≢ kind.OutOfMemory) × RefusesUsage before after old new status)

-- why words ask for no job: their parse fails for this; or it does not, but there are too few or too many paths
abbrev pub IsUsageFault : List (List ℕ) → ErrorKind → Type 0
IsUsageFault texts k = (IsAmong k (fault_of z80dev texts) × (takes z80dev texts ≡ true → ⊥)) ⊎ IsMiscounted texts k

-- The command with its words, as bytes: the words ask for a job, which is done; or they ask for none, for the help, or for the version; or a word
-- is not UTF-8; or memory ran out before it was known what they ask for. Standard output is a terminal, or not.
abbrev pub CommandEnds : List (List ℕ) → Bool → World → World → ℕ → Type 0
CommandEnds words is_terminal old new status =
    ((texts : List (List ℕ)) × (job : Job) × AreTexts words texts × IsJob texts job × JobEnds job is_terminal old new status)
    ⊎ (Untouched old new
    × (((texts : List (List ℕ)) × (k : ErrorKind) × AreTexts words texts × IsUsageFault texts k × RefusesWords k old.output new.output old.errors new.errors status)
    ⊎ (((n : ℕ) × IsNotText words n × RefusesWord n old.output new.output old.errors new.errors status)
    ⊎ LacksMemory old.output new.output old.errors new.errors status)))
