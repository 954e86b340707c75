-- Why a command is refused.
use Rattle.std.proofs.Common.{◌≡◌, ◌⊎◌, ℕ, List, Result, Ok, Err, IfSome, length, refl, inl, inr, arith}
use Rattle.cpm_image.specs.Image.{IsImageOf}
use Rattle.cpm_image.specs.Kind.{IsDiskSize, sector_count}
use Rattle.cpm_image.specs.declared.fault.ImageFault.{ImageFault}
use Rattle.cpm_image.specs.declared.fault.ImageFault.TheVariants as bytes
use Rattle.cpm_image.specs.declared.kind.DiskKind.{DiskKind}
use Rattle.cpm_image.specs.declared.kind.DiskKind.TheVariants.{EightInch, Megabyte}
use Rattle.cpm_image.specs.declared.directory.fault.DiskFault.{DiskFault}
use Rattle.cpm_image.specs.declared.directory.fault.DiskFault.TheVariants as fault
use Rattle.cpm_disk.specs.Image.{Image}
use Rattle.cpm_disk.specs.Mounting.{IsMountFault, RefusesMount}
use Rattle.host.specs.Answers as finish
use Rattle.host.specs.declared.answer.Answer as made
use Rattle.z80dev_disk.specs.Disks.{Edited, IsDisk, IsDiskRefusal, OfDisk, UnlessMemory, refused}
use Rattle.z80dev_disk.specs.Private.{IsAnswered, answer_at, refusal_at}
use Rattle.z80dev_disk.specs.Refusals.{IsRefusalOf, RefusesNone, WithName, of_disk, of_image}
use Rattle.z80dev_disk.specs.declared.refusal.Refusal.{Refusal}
use Rattle.z80dev_disk.specs.declared.refusal.Refusal.TheVariants as refusal

-- the refusal of bytes that are not an image
pub no_image : (stored : List ℕ) (why : ImageFault) → IsImageOf stored (Err why) → IsRefusalOf RefusesNone (of_image why) × UnlessMemory (IsDiskRefusal stored) (of_image why)
no_image stored bytes.NoMemory is = (tt, tt)
no_image stored bytes.NotSectors is = (λ e. absurd (let other : bytes.NotSectors ≡ bytes.NoMemory = e in cc), is)
no_image stored bytes.TooLong is = (λ e. absurd (let other : bytes.TooLong ≡ bytes.NoMemory = e in cc), is)

size_of : (kind : DiskKind) (n : ℕ) → n ≡ sector_count kind → IsDiskSize n
size_of EightInch n is = inl is
size_of Megabyte n is = inr is

-- the refusal of an image whose directory breaks a rule
pub no_disk : (stored : List ℕ) (image : Image) (why : DiskFault) → IsImageOf stored (Ok image) → IsMountFault image 0 0 why → RefusesMount why → IsRefusalOf RefusesNone (of_disk why) × UnlessMemory (IsDiskRefusal stored) (of_disk why)
no_disk stored image fault.BadEntry is (same, (kind, count, first)) rule = (inl tt, (kind, image, is, count, first))
no_disk stored image fault.BlockRange is (same, (kind, count, first)) rule = (inl tt, (kind, image, is, count, first))
no_disk stored image fault.BlockTwice is (same, (kind, count, first)) rule = (inl tt, (kind, image, is, count, first))
no_disk stored image fault.NameTwice is (same, (kind, count, first)) rule = (inl tt, (kind, image, is, count, first))
no_disk stored image fault.NoMemory is first rule = (tt, tt)
no_disk stored image fault.WrongSize (good, count, sectors, bytes_are) (same, wrong) rule = absurd (wrong (size_of _ (length image) count))
no_disk stored image fault.Fault is (inl less, size) rule = absurd (omega (arith, less))
no_disk stored image fault.Fault is (inr (most, same), size) rule = absurd (omega (arith, most))
no_disk stored image fault.NotFound is first rule = absurd rule
no_disk stored image fault.Exists is first rule = absurd rule
no_disk stored image fault.DirectoryFull is first rule = absurd rule
no_disk stored image fault.DiskFull is first rule = absurd rule
no_disk stored image fault.ReadOnly is first rule = absurd rule
no_disk stored image fault.Unwritten is first rule = absurd rule
no_disk stored image fault.NoExtent is first rule = absurd rule
no_disk stored image fault.Failed is first rule = absurd rule
no_disk stored image fault.TooFar is first rule = absurd rule

-- what holds of a refusal also holds of it unless memory ran out
pub unless_memory : (Holds : Refusal → Type 0) (why : Refusal) → Holds why → UnlessMemory Holds why
unless_memory Holds refusal.BadName is = is
unless_memory Holds (refusal.BadFile name) is = is
unless_memory Holds (refusal.Image why) is = is
unless_memory Holds (refusal.Disk why) is = is
unless_memory Holds (refusal.Named why name) is = is
unless_memory Holds refusal.NoMemory is = tt

-- Every command refuses bytes that are not the image of a disk.
pub of_bytes : (Own : Refusal → Type 0) (Says : _) (stored : List ℕ) (why : Refusal) → IsRefusalOf RefusesNone why × UnlessMemory (IsDiskRefusal stored) why → IsRefusalOf Own why × UnlessMemory (λ w. OfDisk stored Says (refused w)) why
of_bytes Own Says stored refusal.BadName (refuses, is) = absurd refuses
of_bytes Own Says stored (refusal.BadFile name) (refuses, is) = absurd refuses
of_bytes Own Says stored (refusal.Image why) (refuses, is) = (refuses, inr (refusal.Image why, is, refl))
of_bytes Own Says stored (refusal.Disk why) (inl rule, is) = (inl rule, inr (refusal.Disk why, is, refl))
of_bytes Own Says stored (refusal.Disk why) (inr none, is) = absurd none
of_bytes Own Says stored (refusal.Named why name) (refuses, is) = absurd refuses
of_bytes Own Says stored refusal.NoMemory (refuses, is) = (tt, tt)

-- how a command ends, as an answer and its refusal
pub answers : (Own : Refusal → Type 0) (Is : finish.Answer → Type 0) (r : Result (made.Answer Refusal) Refusal) → IsAnswered Own Is r → finish.MemoryAside Is (answer_at r) × IfSome (refusal_at r) (IsRefusalOf Own)
answers Own Is (Ok answer) (refuses, is) = (inr is, refuses)
answers Own Is (Err refusal.BadName) (refuses, is) = (inr is, refuses)
answers Own Is (Err (refusal.BadFile name)) (refuses, is) = (inr is, refuses)
answers Own Is (Err (refusal.Image why)) (refuses, is) = (inr is, refuses)
answers Own Is (Err (refusal.Disk why)) (refuses, is) = (inr is, refuses)
answers Own Is (Err (refusal.Named why name)) (refuses, is) = (inr is, refuses)
answers Own Is (Err refusal.NoMemory) (refuses, is) = (inl refl, refuses)

-- ---- changes

-- A command that changes a disk refuses bytes that are not the image of one.
pub no_edit : (Own : Refusal → Type 0) (Does : DiskKind → Image → Image → Type 0) (Stops : DiskKind → Image → Refusal → Type 0) (stored : List ℕ) (why : Refusal)
    → IsRefusalOf RefusesNone why × UnlessMemory (IsDiskRefusal stored) why → IsRefusalOf Own why × Edited stored Does Stops (Err why)
no_edit Own Does Stops stored refusal.BadName (refuses, is) = absurd refuses
no_edit Own Does Stops stored (refusal.BadFile name) (refuses, is) = absurd refuses
no_edit Own Does Stops stored (refusal.Image why) (refuses, is) = (refuses, inl is)
no_edit Own Does Stops stored (refusal.Disk why) (inl rule, is) = (inl rule, inl is)
no_edit Own Does Stops stored (refusal.Disk why) (inr none, is) = absurd none
no_edit Own Does Stops stored (refusal.Named why name) (refuses, is) = absurd refuses
no_edit Own Does Stops stored refusal.NoMemory (refuses, is) = (tt, tt)

-- a change that the disk refuses
pub stopped_edit : (Does : DiskKind → Image → Image → Type 0) (Stops : DiskKind → Image → Refusal → Type 0) (stored : List ℕ) (kind : DiskKind) (old : Image) (why : Refusal) → IsDisk stored kind old → Stops kind old why → Edited stored Does Stops (Err why)
stopped_edit Does Stops stored kind old why disk stops = unless_memory (λ w. IsDiskRefusal stored w ⊎ ((k : DiskKind) × (image : Image) × IsDisk stored k image × Stops k image w)) why (inr (kind, old, disk, stops))

-- a refusal with a name is one of the command's own
pub by_name : (Of : DiskFault → Type 0) (why : Refusal) → WithName Of why → IsRefusalOf (WithName Of) why
by_name Of refusal.BadName is = is
by_name Of (refusal.BadFile name) is = is
by_name Of (refusal.Image why) is = absurd is
by_name Of (refusal.Disk why) is = absurd is
by_name Of (refusal.Named why name) is = is
by_name Of refusal.NoMemory is = absurd is
