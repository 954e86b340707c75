-- What `get` answers: files of a user, as whole records or as texts.
use Rattle.std.specs.Prelude.{◌≡◌, ◌⊎◌, ℕ, Bool, not, List, [], ◌∷◌, Option, None, Some, Result, Ok, Err, Vec, filter, find, if◌then◌else◌, map, option_map, replicate, string_bytes, unwrap_or}
use Rattle.std.specs.Global.{Global}
use Rattle.std.specs.List.{flat_map, range_with_len}
use Rattle.cpm_image.specs.declared.format.TheConstants.{RECORD_BYTES}
use Rattle.cpm_image.specs.declared.kind.DiskKind.{DiskKind}
use Rattle.cpm_image.specs.Directory.Searches.{IsListing, size}
use Rattle.cpm_image.specs.declared.directory.fault.DiskFault.TheVariants as fault
use Rattle.cpm_image.specs.declared.directory.listing.Listed.{Listed}
use Rattle.cpm_disk.specs.Files.{file_record}
use Rattle.cpm_disk.specs.Image.{Image, directory}
use Rattle.host.specs.Answers as finish
use Rattle.z80dev_disk.specs.Dir.{is_asked}
use Rattle.z80dev_disk.specs.Disks.{IsDisk, IsDiskRefusal, OfDisk, UnlessMemory, one_file, refused}
use Rattle.z80dev_disk.specs.Names.{host_name, is_host_name}
use Rattle.z80dev_disk.specs.Text.{host_text}
use Rattle.z80dev_disk.specs.declared.getting.Gotten.{Gotten}
use Rattle.z80dev_disk.specs.declared.refusal.Refusal.{Refusal}
use Rattle.z80dev_disk.specs.declared.refusal.Refusal.TheVariants as refusal

-- a record of a file, or 128 zeros if the file has no such record
abbrev pub copied_record : DiskKind → Image → ℕ → List ℕ → ℕ → List ℕ
copied_record kind image user name number = unwrap_or (file_record kind image user name number) (replicate RECORD_BYTES 0)

-- the first `count` records of a file, one after the other
abbrev pub copied_below : DiskKind → Image → ℕ → List ℕ → ℕ → List ℕ
copied_below kind image user name count = flat_map (copied_record kind image user name) (range_with_len 0 count)

-- the bytes, or if a text is asked for, the text in them in the host's form
abbrev pub as_asked : Bool → List ℕ → List ℕ
as_asked text bytes = if text then host_text bytes else bytes

-- ---- one file

-- the answer about a file with this number of records, or about no file
abbrev pub got : DiskKind → Image → ℕ → List ℕ → Bool → Option ℕ → finish.Answer
got kind image user name text (Some count) = one_file (as_asked text (copied_below kind image user name count))
got kind image user name text None = refused (refusal.Disk fault.NotFound)

abbrev pub GetOf : ℕ → List ℕ → Bool → DiskKind → Image → finish.Answer → Type 0
GetOf user name text kind image answer = answer ≡ got kind image user name text (size user name (directory kind image))

abbrev pub IsGet : List ℕ → ℕ → List ℕ → Bool → finish.Answer → Type 0
IsGet bytes user name text answer = OfDisk bytes (GetOf user name text) answer

-- ---- the files that match

-- a file for the host: its name there, and its bytes
abbrev pub HostFile : Type 0
HostFile = List ℕ × List ℕ

abbrev pub host_file : Gotten → HostFile
host_file g = (string_bytes g.name, g.bytes.items)

-- the file for the host that is made from a file of the disk
abbrev pub gotten : Bool → DiskKind → Image → Listed → HostFile
gotten text kind image file = (host_name file.name, as_asked text (copied_below kind image file.user file.name file.records))

-- Why files are not copied: there are none; or this is the first whose name the host cannot take.
abbrev pub refusal_of : List ℕ → List Listed → Option Refusal
refusal_of pattern [] = Some (refusal.Named fault.NotFound pattern)
refusal_of pattern (file ∷ files) = option_map (λ f. refusal.BadFile f.name) (find (λ f. not (is_host_name f.name)) (file ∷ files))

-- the result for the files that match: each with its name on the host, in the order of the listing; or why none is copied
abbrev pub AreGotten : List ℕ → Bool → DiskKind → Image → List Listed → Result (Vec Gotten Global) Refusal → Type 0
AreGotten pattern text kind image files (Ok made) = (refusal_of pattern files ≡ None) × (map host_file made.items ≡ map (gotten text kind image) files)
AreGotten pattern text kind image files (Err why) = refusal_of pattern files ≡ Some why

-- Every file of a user that matches a pattern is copied, in the order of a listing; or the command is refused and copies none; or memory
-- ran out.
abbrev pub IsGetAll : List ℕ → ℕ → List ℕ → Bool → Result (Vec Gotten Global) Refusal → Type 0
IsGetAll bytes user pattern text (Ok made) = (kind : DiskKind) × (image : Image) × IsDisk bytes kind image
    × (files : List Listed) × IsListing (directory kind image) files × AreGotten pattern text kind image (filter (is_asked (Some user) (Some pattern)) files) (Ok made)
IsGetAll bytes user pattern text (Err why) = UnlessMemory (λ w. IsDiskRefusal bytes w ⊎ ((kind : DiskKind) × (image : Image) × IsDisk bytes kind image
    × (files : List Listed) × IsListing (directory kind image) files × AreGotten pattern text kind image (filter (is_asked (Some user) (Some pattern)) files) (Err w))) why
