-- Definitions that only private contracts use, so no public promise depends on them.
use Rattle.std.specs.Prelude.{◌≡◌, ◌<◌, IfSome, ℕ, List, Option, Some, Result, Ok, Err, filter, length}
use Rattle.cpm_image.specs.Kind.{entry_count}
use Rattle.cpm_image.specs.declared.kind.DiskKind.{DiskKind}
use Rattle.cpm_image.specs.Directory.Entries.{at}
use Rattle.cpm_image.specs.Directory.Searches.{IsListing}
use Rattle.cpm_image.specs.declared.directory.fault.DiskFault.{DiskFault}
use Rattle.cpm_image.specs.declared.directory.listing.Listed.{Listed}
use Rattle.cpm_disk.specs.Image.{Image, directory}
use Rattle.host.specs.Answers as finish
use Rattle.host.specs.declared.answer.Answer as made
use Rattle.z80dev_disk.specs.declared.refusal.Refusal.{Refusal}
use Rattle.z80dev_disk.specs.declared.refusal.Refusal.TheVariants as refusal
use Rattle.z80dev_disk.specs.Dir.{is_asked}
use Rattle.z80dev_disk.specs.Disks.{UnlessMemory, disk_answer, refused}
use Rattle.z80dev_disk.specs.Refusals.{IsRefusalOf}

-- A command ends with its answer, or it is refused; its own refusals satisfy `Own`.
abbrev pub IsAnswered : (Refusal → Type 0) → (finish.Answer → Type 0) → Result (made.Answer Refusal) Refusal → Type 0
IsAnswered Own Is (Ok answer) = IfSome answer.refusal (IsRefusalOf Own) × Is (disk_answer answer)
IsAnswered Own Is (Err why) = IsRefusalOf Own why × UnlessMemory (λ w. Is (refused w)) why

abbrev pub answer_at : Result (made.Answer Refusal) Refusal → finish.Answer
answer_at (Ok answer) = disk_answer answer
answer_at (Err why) = refused why

abbrev pub refusal_at : Result (made.Answer Refusal) Refusal → Option Refusal
refusal_at (Ok answer) = answer.refusal
refusal_at (Err why) = Some why

-- the work for one element is refused, and the refusal has the name that `named` gives for it
abbrev pub IsRefusedAt : {X : Type 0} → (X → Image → DiskFault → Type 0) → (X → Image → DiskFault → List ℕ) → X → Image → Refusal → Type 0
IsRefusedAt Stops named x image (refusal.Named why name) = Stops x image why × (name ≡ named x image why)
IsRefusedAt Stops named x image _ = ⊥

-- the name in each entry of the directory has eleven bytes
abbrev pub HaveNames : DiskKind → Image → Type 0
HaveNames kind image = (k : ℕ) → k < entry_count kind → length (at (directory kind image) k).name ≡ 11

-- `found` are those files of the disk's listing that are asked for
abbrev pub AreAsked : DiskKind → Image → Option ℕ → Option (List ℕ) → List Listed → Type 0
AreAsked kind image user pattern found = (files : List Listed) × IsListing (directory kind image) files × (found ≡ filter (is_asked user pattern) files)
