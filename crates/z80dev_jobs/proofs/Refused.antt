-- Words that ask for no job.
use Rattle.std.proofs.Common.{◌≡◌, ◌≢◌, Bool, true, false, ℕ, List, [], ◌∷◌, ap, inl, inr, sym, ◌∙◌}
use Rattle.std.specs.Prelude.{◌⊎◌, Option}
use Rattle.std.proofs.lemmas.Bool.{false≢true}
use Rattle.clap.specs.Words.{IsAmong, Row, fault_of, subcommand_of, takes}
use Rattle.clap.specs.declared.error.kind.ErrorKind.{ErrorKind}
use Rattle.clap.specs.declared.error.kind.ErrorKind.TheVariants as kind
use Rattle.z80dev_commands.specs.Commands.{HasRightCount, IsDiskJobOf, IsJob, IsMiscounted, z80dev}
use Rattle.z80dev_commands.specs.declared.job.DiskJob.{DiskJob}
use Rattle.z80dev_commands.specs.declared.job.DiskJob.TheVariants as on
use Rattle.z80dev_commands.specs.declared.job.Job.{Job}
use Rattle.z80dev_commands.specs.declared.job.Job.TheVariants.{Pipe, Asm, Link, Build, Explain, Check, Dis, Disk, Run, Debug, Play}
use Rattle.z80dev_jobs.specs.Command.{AsksToShow, CommandEnds, IsUsageFault}
use Rattle.host.specs.Reporting.{Untouched}
use Rattle.z80dev_jobs.specs.Private.Steps.{HasJobUser, RefusesError}
use Rattle.z80dev.specs.Disks.{HasUser}
use Rattle.z80dev_jobs.specs.Words.{AreTexts}
use Rattle.host.specs.World.{World}

abbrev is_out : ErrorKind → Bool
is_out kind.OutOfMemory = true
is_out other = false

-- who asks for help or the version has not run out of memory
asks : (k : ErrorKind) → AsksToShow k → k ≢ kind.OutOfMemory
asks k (inl help) out = false≢true (ap is_out (sym help ∙ out))
asks k (inr version) out = false≢true (ap is_out (sym version ∙ out))

among : (k : ErrorKind) (kinds : List ErrorKind) → (k ≡ kind.OutOfMemory) ⊎ IsAmong k kinds → k ≢ kind.OutOfMemory → IsAmong k kinds
among k kinds (inl out) in_memory = absurd (in_memory out)
among k kinds (inr is) in_memory = is

-- the kinds by which the parse of words fails are none where it succeeds
parsed_none : (k : ErrorKind) (kinds : List ErrorKind) → IsAmong k kinds → kinds ≡ [] → ⊥
parsed_none k [] is none = is
parsed_none k (x ∷ xs) is none = absurd cc

usage : (texts : List (List ℕ)) (k : ErrorKind) → k ≢ kind.OutOfMemory → ((k ≡ kind.OutOfMemory) ⊎ IsAmong k (fault_of z80dev texts)) ⊎ IsMiscounted texts k
    → (takes z80dev texts ≡ true → HasRightCount texts → k ≡ kind.OutOfMemory) → IsUsageFault texts k
usage texts k in_memory (inl kinds) taken =
    let is = among k (fault_of z80dev texts) kinds in_memory in
    inl (is, λ t. in_memory (taken t (λ other counts. parsed_none k (fault_of z80dev texts) is counts.0)))
usage texts k in_memory (inr counts) taken = inr counts

pub refused : (words texts : List (List ℕ)) (is_terminal : Bool) (k : ErrorKind) (old new : World) (status : ℕ) → AreTexts words texts → Untouched old new
    → ((k ≡ kind.OutOfMemory) ⊎ IsAmong k (fault_of z80dev texts)) ⊎ IsMiscounted texts k
    → (takes z80dev texts ≡ true → HasRightCount texts → k ≡ kind.OutOfMemory) → RefusesError k old.output new.output old.errors new.errors status → CommandEnds words is_terminal old new status
refused words texts is_terminal k old new status are same kinds taken (inl (inl shows)) =
    inr (same, inl (texts, k, are, usage texts k (asks k shows.0) kinds taken, inl shows))
refused words texts is_terminal k old new status are same kinds taken (inl (inr used)) =
    inr (same, inl (texts, k, are, usage texts k used.1 kinds taken, inr used))
refused words texts is_terminal k old new status are same kinds taken (inr lacks) = inr (same, inr (inr lacks))

-- a job that the words ask for is about a user that has files
has_disk_user : (met : Option (List ℕ × List Row)) (job : DiskJob) → IsDiskJobOf met job → HasUser job
has_disk_user met (on.Put put) is = is.2.1.1.0
has_disk_user met (on.PutAll put) is = is.2.1.1.0
has_disk_user met (on.Get get) is = is.2.2.0
has_disk_user met (on.GetAll get) is = is.2.2.0
has_disk_user met (on.Erase erase) is = is.2.0.1.0
has_disk_user met (on.Rename rename) is = is.2.0.1.0
has_disk_user met (on.Protect protect) is = is.2.0.1.0
has_disk_user met (on.Dir dir) is = tt
has_disk_user met (on.Check image) is = tt
has_disk_user met (on.Blank blank) is = tt

pub has_user : (texts : List (List ℕ)) (job : Job) → IsJob texts job → HasJobUser job
has_user texts (Disk job) is = has_disk_user (subcommand_of z80dev texts) job is.1
has_user texts Pipe is = tt
has_user texts (Asm asm) is = tt
has_user texts (Link link) is = tt
has_user texts (Build build) is = tt
has_user texts (Explain explain) is = tt
has_user texts (Check check) is = tt
has_user texts (Dis dis) is = tt
has_user texts (Run run) is = tt
has_user texts (Debug debugging) is = tt
has_user texts (Play p) is = tt
