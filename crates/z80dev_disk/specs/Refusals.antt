-- Why a command on an image is refused, and how it is printed: by the name of the innermost variant, with a file's name in parentheses.
use Rattle.std.specs.Prelude.{◌≡◌, ◌≢◌, ◌⊎◌, ℕ, Bool, true, false, List, ◌++◌, Option, Some, codes, ⊤}
use Rattle.cpm_image.specs.declared.directory.fault.DiskFault.{DiskFault}
use Rattle.cpm_image.specs.declared.directory.fault.DiskFault.TheVariants as fault
use Rattle.cpm_image.specs.Directory.Letters.{letters}
use Rattle.cpm_image.specs.Directory.Rules.{IsRuleFault}
use Rattle.cpm_image.specs.declared.fault.ImageFault.{ImageFault}
use Rattle.cpm_image.specs.declared.fault.ImageFault.TheVariants as bytes
use Rattle.z80dev_disk.specs.Names.{host_name}
use Rattle.z80dev_disk.specs.declared.refusal.Refusal.{Refusal}
use Rattle.z80dev_disk.specs.declared.refusal.Refusal.TheVariants as refusal

-- A lack of memory is always the same refusal, whichever part reports it.
abbrev pub of_image : ImageFault → Refusal
of_image bytes.NoMemory = refusal.NoMemory
of_image fault = refusal.Image fault

abbrev pub of_disk : DiskFault → Refusal
of_disk fault.NoMemory = refusal.NoMemory
of_disk why = refusal.Disk why

abbrev pub image_name : ImageFault → List ℕ
image_name bytes.NotSectors = codes "NotSectors"
image_name bytes.TooLong = codes "TooLong"
image_name bytes.NoMemory = codes "NoMemory"

abbrev pub disk_name : DiskFault → List ℕ
disk_name fault.Fault = codes "Fault"
disk_name fault.BlockTwice = codes "BlockTwice"
disk_name fault.BlockRange = codes "BlockRange"
disk_name fault.BadEntry = codes "BadEntry"
disk_name fault.NotFound = codes "NotFound"
disk_name fault.Exists = codes "Exists"
disk_name fault.DirectoryFull = codes "DirectoryFull"
disk_name fault.DiskFull = codes "DiskFull"
disk_name fault.ReadOnly = codes "ReadOnly"
disk_name fault.Unwritten = codes "Unwritten"
disk_name fault.NoExtent = codes "NoExtent"
disk_name fault.NameTwice = codes "NameTwice"
disk_name fault.Failed = codes "Failed"
disk_name fault.TooFar = codes "TooFar"
disk_name fault.NoMemory = codes "NoMemory"
disk_name fault.WrongSize = codes "WrongSize"

-- `RULE(NAME.TYP)`, with the low seven bits of each byte of the name
abbrev pub rule_and_name : List ℕ → List ℕ → List ℕ
rule_and_name rule name = rule ++ (codes "(" ++ (host_name (letters name) ++ codes ")"))

abbrev pub refusal_text : Refusal → List ℕ
refusal_text refusal.BadName = codes "BadName"
refusal_text (refusal.BadFile name) = rule_and_name (codes "BadName") name
refusal_text (refusal.Image fault) = image_name fault
refusal_text (refusal.Disk fault) = disk_name fault
refusal_text (refusal.Named why name) = rule_and_name (disk_name why) name
refusal_text refusal.NoMemory = codes "NoMemory"

-- a refusal without the name of its file
abbrev pub unnamed : Refusal → Refusal
unnamed (refusal.BadFile name) = refusal.BadName
unnamed (refusal.Named why name) = refusal.Disk why
unnamed why = why

-- The refusals of a command: those of bytes that are not the image of a disk, and its own. A device in memory never fails, so no refusal
-- is about a fault of the device. A lack of memory is never inside another refusal.
abbrev pub IsRefusalOf : (Refusal → Type 0) → Refusal → Type 0
IsRefusalOf Own (refusal.Image why) = why ≢ bytes.NoMemory
IsRefusalOf Own (refusal.Disk why) = IsRuleFault why ⊎ Own (refusal.Disk why)
IsRefusalOf Own refusal.NoMemory = ⊤
IsRefusalOf Own why = Own why

-- a command that has no refusals of its own
abbrev pub RefusesNone : Refusal → Type 0
RefusesNone why = ⊥

-- The refusals of a command whose disk refuses a call for one of the reasons `Of`: each with the name of a file, or each without.
abbrev pub WithName : (DiskFault → Type 0) → Refusal → Type 0
WithName Of (refusal.Named why name) = Of why
WithName Of why = ⊥

abbrev pub WithoutName : (DiskFault → Type 0) → Refusal → Type 0
WithoutName Of (refusal.Disk why) = Of why
WithoutName Of why = ⊥

-- the refusal of `dir`: no file matches the pattern that is given
abbrev pub RefusesDir : Option (List ℕ) → Refusal → Type 0
RefusesDir pattern (refusal.Named fault.NotFound name) = pattern ≡ Some name
RefusesDir pattern why = ⊥

-- the refusal of `get`: the user has no such file
abbrev pub IsNotFound : DiskFault → Type 0
IsNotFound why = why ≡ fault.NotFound

-- the refusals of `get` with a pattern: no file matches, or the host cannot take the name of one
abbrev pub RefusesGetAll : List ℕ → Refusal → Type 0
RefusesGetAll pattern (refusal.Named fault.NotFound name) = name ≡ pattern
RefusesGetAll pattern (refusal.BadFile name) = ⊤
RefusesGetAll pattern why = ⊥

-- the refusals of a new file that is put on a disk
abbrev pub RefusesStore : DiskFault → Type 0
RefusesStore fault.Exists = ⊤
RefusesStore fault.DirectoryFull = ⊤
RefusesStore fault.DiskFull = ⊤
RefusesStore fault.TooFar = ⊤
RefusesStore why = ⊥

-- The refusals of `put`. A file of the same name stops it: always if it is not to be replaced, otherwise only if it is read-only.
abbrev pub RefusesPut : Bool → DiskFault → Type 0
RefusesPut false fault.Exists = ⊤
RefusesPut true fault.ReadOnly = ⊤
RefusesPut replaces fault.DirectoryFull = ⊤
RefusesPut replaces fault.DiskFull = ⊤
RefusesPut replaces fault.TooFar = ⊤
RefusesPut replaces why = ⊥
