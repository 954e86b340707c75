-- How the steps of the command end.
use Rattle.std.specs.Prelude.{◌⊎◌, ℕ}
use Rattle.clap.specs.declared.error.kind.ErrorKind.{ErrorKind}
use Rattle.host.specs.Streams.Stream.{Stream}
use Rattle.z80dev_commands.specs.declared.job.Job.{Job}
use Rattle.z80dev_commands.specs.declared.job.Job.TheVariants.{Disk}
use Rattle.host.specs.Reporting.{LacksMemory}
use Rattle.z80dev_jobs.specs.Command.{RefusesWord, RefusesWords}
use Rattle.z80dev_jobs.specs.declared.words.WordsFault.{WordsFault}
use Rattle.z80dev_jobs.specs.declared.words.WordsFault.TheVariants as fault
use Rattle.z80dev.specs.Disks.{HasUser}

-- why the words are not known
abbrev pub RefusesFault : WordsFault → Stream → Stream → ℕ → Type 0
RefusesFault (fault.NotText n) old new status = RefusesWord n old old old new status ⊎ LacksMemory old old old new status
RefusesFault fault.NoMemory old new status = LacksMemory old old old new status

-- why words ask for no job
abbrev pub RefusesError : ErrorKind → Stream → Stream → Stream → Stream → ℕ → Type 0
RefusesError k before after old new status = RefusesWords k before after old new status ⊎ LacksMemory before after old new status

-- the same of any job
abbrev pub HasJobUser : Job → Type 0
HasJobUser (Disk job) = HasUser job
HasJobUser _ = Unit {0}
