-- What mounting a device answers, and the files of a mounted disk.
use Rattle.std.specs.Prelude.{◌≡◌, ℕ, length, true, false, List, Result, Ok, Err, ⊤}
use Rattle.cpm_image.specs.Device.{HasRisen}
use Rattle.cpm_image.specs.Kind.{IsDiskSize, sector_count}
use Rattle.cpm_image.specs.declared.kind.DiskKind.{DiskKind}
use Rattle.cpm_image.specs.declared.directory.broken.Broken.{Broken}
use Rattle.cpm_image.specs.declared.directory.fault.DiskFault.{DiskFault}
use Rattle.cpm_image.specs.declared.directory.fault.DiskFault.TheVariants as fault
use Rattle.cpm_image.specs.declared.directory.listing.Listed.{Listed}
use Rattle.cpm_image.specs.Directory.Rules.{AreBroken, IsFirstFault, IsRuleFault, IsSound}
use Rattle.cpm_image.specs.Directory.Searches.{IsListing}
use Rattle.cpm_disk.specs.Calls.{Mounted}
use Rattle.cpm_disk.specs.Image.{Image, directory}

-- Why a device is not mounted: no disk has its size; or it failed; or it did not, and memory ran out; or the directory breaks a rule, and
-- this is its first fault. The two numbers are the device's number of faults before and after.
abbrev pub IsMountFault : Image → ℕ → ℕ → DiskFault → Type 0
IsMountFault image before now fault.WrongSize = (now ≡ before) × (IsDiskSize (length image) → ⊥)
IsMountFault image before now fault.Fault = HasRisen before now × IsDiskSize (length image)
IsMountFault image before now fault.NoMemory = (now ≡ before) × IsDiskSize (length image)
IsMountFault image before now f = (now ≡ before) × ((kind : DiskKind) × (length image ≡ sector_count kind) × IsFirstFault kind (directory kind image) f)

-- the faults that mounting can answer
abbrev pub RefusesMount : DiskFault → Type 0
RefusesMount fault.WrongSize = ⊤
RefusesMount fault.Fault = ⊤
RefusesMount fault.NoMemory = ⊤
RefusesMount f = IsRuleFault f

-- Mounting answers a disk if the device did not fail and the directory keeps its rules, and otherwise the fault and the device. The
-- sectors of the device are as they were.
abbrev pub IsMountedFrom : {S : Type 0} → (S → Image) → (S → ℕ) → S → Result (Mounted S) (DiskFault × S) → Type 0
IsMountedFrom sectors faults device (Ok disk) = (disk.failed ≡ false) × (sectors disk.device ≡ sectors device) × (faults disk.device ≡ faults device) × (length (sectors device) ≡ sector_count disk.kind) × IsSound disk.kind (directory disk.kind (sectors device))
IsMountedFrom sectors faults device (Err back) = (sectors back.1 ≡ sectors device) × IsMountFault (sectors device) (faults device) (faults back.1) back.0

-- the listing of a disk's files, unless the device failed before or memory ran out
abbrev pub IsListedBy : {S A : Type 0} → (S → Image) → (A → List Listed) → Mounted S → Result A DiskFault → Type 0
IsListedBy sectors items disk (Ok listed) = (disk.failed ≡ false) × IsListing (directory disk.kind (sectors disk.device)) (items listed)
IsListedBy sectors items disk (Err fault.Failed) = disk.failed ≡ true
IsListedBy sectors items disk (Err fault.NoMemory) = disk.failed ≡ false
IsListedBy sectors items disk (Err _) = ⊥

-- The answer is the entries that break a rule, unless no disk has the size of the device, it failed, or memory ran out; then it is the
-- reason, as for mounting. The two numbers are the device's number of faults before and after.
abbrev pub AreFaultsOf : {A : Type 0} → (A → List Broken) → Image → ℕ → ℕ → Result A DiskFault → Type 0
AreFaultsOf items image before now (Ok broken) = (now ≡ before) × ((kind : DiskKind) × (length image ≡ sector_count kind) × AreBroken kind (directory kind image) (items broken))
AreFaultsOf items image before now (Err fault.WrongSize) = IsMountFault image before now fault.WrongSize
AreFaultsOf items image before now (Err fault.Fault) = IsMountFault image before now fault.Fault
AreFaultsOf items image before now (Err fault.NoMemory) = IsMountFault image before now fault.NoMemory
AreFaultsOf items image before now (Err _) = ⊥
