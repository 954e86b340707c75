-- What `put` answers: an image in which files of a user are created, one after the other, and the records of each are written.
use Rattle.std.specs.Prelude.{◌≡◌, ◌⊎◌, ◌<◌, ℕ, ◌+◌, ◌-◌, ◌*◌, ◌/◌, ◌%◌, Bool, true, false, ◌&&◌, List, ◌++◌, None, Some, Result, Ok, Err, Vec, drop, if◌then◌else◌, length, nat_lt, replicate, slice_set, take}
use Rattle.std.specs.Global.{Global}
use Rattle.cpm_image.specs.declared.format.TheConstants.{RECORD_BYTES}
use Rattle.cpm_image.specs.Kind.{block_records}
use Rattle.cpm_image.specs.declared.kind.DiskKind.{DiskKind}
use Rattle.cpm_image.specs.Directory.Rules.{IsSound}
use Rattle.cpm_image.specs.Directory.Searches.{file_is_read_only, file_is_system, is_file, size}
use Rattle.cpm_image.specs.declared.directory.entry.Entry.{Entry}
use Rattle.cpm_image.specs.declared.directory.fault.DiskFault.{DiskFault}
use Rattle.cpm_image.specs.declared.directory.fault.DiskFault.TheVariants as fault
use Rattle.cpm_disk.specs.Steps.{creation, erasure, writing}
use Rattle.cpm_disk.specs.declared.placement.Placement.{Placement}
use Rattle.cpm_disk.specs.Calls.{Changed, Written}
use Rattle.cpm_disk.specs.Files.{IsFile, OthersAreSame, file_record}
use Rattle.cpm_disk.specs.Image.{Image, directory}
use Rattle.z80dev_disk.specs.Along.{Along, IsRefusedAlong}
use Rattle.z80dev_disk.specs.Changes.{Erases}
use Rattle.z80dev_disk.specs.Disks.{Edited}
use Rattle.z80dev_disk.specs.Refusals.{RefusesStore}
use Rattle.z80dev_disk.specs.declared.putting.PutFile.{PutFile}
use Rattle.z80dev_disk.specs.declared.refusal.Refusal.{Refusal}

-- the number of records of a file with these bytes
abbrev pub records_to_put : List ℕ → ℕ
records_to_put file = (length file + (RECORD_BYTES - 1)) / RECORD_BYTES

-- a record that begins with these bytes and is padded with 1AH, which ends a text
abbrev pub padded_record : List ℕ → List ℕ
padded_record piece = piece ++ replicate (RECORD_BYTES - length piece) 0x1A

-- record `n` of a file with these bytes
abbrev pub record_to_put : List ℕ → ℕ → List ℕ
record_to_put file n = padded_record (take RECORD_BYTES (drop (RECORD_BYTES * n) file))

-- The image after the file is created and its first `n` records are written, one after the other.
pub data PutsFirstRecords (kind : DiskKind) (old : Image) (user : ℕ) (name file : List ℕ) : ℕ → Image → Type 0 where
  made : (new : Image) (put : ℕ × Entry) → creation user name (directory kind old) ≡ Ok put → Changed kind old new (slice_set (directory kind old) put.0 put.1) → PutsFirstRecords kind old user name file 0 new
  more : (n : ℕ) (image new : Image) (p : Placement) → PutsFirstRecords kind old user name file n image → writing kind user name n (directory kind image) ≡ Ok p
      → Written kind image new p (n % block_records kind) (record_to_put file n) → PutsFirstRecords kind old user name file (n + 1) new

-- What a user sees: the file has exactly these records and no attributes; every other file is as before, and the directory keeps its
-- rules.
pub record HasFile (kind : DiskKind) (old new : Image) (user : ℕ) (name file : List ℕ) : Type 0 where
  pub records : (n : ℕ) → file_record kind new user name n ≡ (if nat_lt n (records_to_put file) then Some (record_to_put file n) else None)
  pub size_is : size user name (directory kind new) ≡ Some (records_to_put file)
  pub read_only : file_is_read_only user name (directory kind new) ≡ false
  pub system : file_is_system user name (directory kind new) ≡ false
  pub others : OthersAreSame kind old new (IsFile user name)
  pub sound : IsSound kind (directory kind new)

-- A file that was not on the disk is created and all its records are written.
abbrev pub IsStored : DiskKind → Image → Image → ℕ → List ℕ → List ℕ → Type 0
IsStored kind old new user name file = PutsFirstRecords kind old user name file (records_to_put file) new × HasFile kind old new user name file

-- The first refusal: the file is not created, or one of its records is not written.
abbrev pub IsStopped : DiskKind → Image → ℕ → List ℕ → List ℕ → DiskFault → Type 0
IsStopped kind old user name file why = RefusesStore why
    × ((creation user name (directory kind old) ≡ Err why)
    ⊎ ((n : ℕ) × (image : Image) × (n < records_to_put file) × PutsFirstRecords kind old user name file n image × (writing kind user name n (directory kind image) ≡ Err why)))

-- a file to put on a disk: its name there, and its bytes
abbrev pub NamedFile : Type 0
NamedFile = List ℕ × List ℕ

abbrev pub named_file : PutFile → NamedFile
named_file f = (f.name, f.bytes.now)

-- the name that is reported with a refusal: that of the file
abbrev pub name_of_file : NamedFile → Image → DiskFault → List ℕ
name_of_file file image why = file.0

-- whether the user has a file of this name that has to be erased first
abbrev pub is_replaced : ℕ → Bool → List ℕ → List Entry → Bool
is_replaced user replaces name entries = replaces && is_file user name entries

-- A file that is to be replaced is erased; otherwise the image stays as it is.
abbrev pub MakesRoom : Bool → DiskKind → ℕ → List ℕ → Image → Image → Type 0
MakesRoom true kind user name old new = Erases kind user name old new
MakesRoom false kind user name old new = new ≡ old

-- One file is put on the disk, after the file that it replaces, if any, is erased. Every other file is as before.
abbrev pub PutsOne : DiskKind → ℕ → Bool → NamedFile → Image → Image → Type 0
PutsOne kind user replaces file old new = (mid : Image) × MakesRoom (is_replaced user replaces file.0 (directory kind old)) kind user file.0 old mid
    × IsStored kind mid new user file.0 file.1 × OthersAreSame kind old new (IsFile user file.0)

-- The file that is to be replaced is not erased, because it is read-only.
abbrev pub LacksRoom : Bool → DiskKind → ℕ → List ℕ → Image → DiskFault → Type 0
LacksRoom true kind user name old why = (why ≡ fault.ReadOnly) × (erasure user name (directory kind old) ≡ Err why)
LacksRoom false kind user name old why = ⊥

-- the first refusal for one file: of erasing the file that it replaces, or of storing it
abbrev pub StopsOne : DiskKind → ℕ → Bool → NamedFile → Image → DiskFault → Type 0
StopsOne kind user replaces file old why =
    LacksRoom (is_replaced user replaces file.0 (directory kind old)) kind user file.0 old why
    ⊎ ((mid : Image) × MakesRoom (is_replaced user replaces file.0 (directory kind old)) kind user file.0 old mid × IsStopped kind mid user file.0 file.1 why)

-- The files are put on the disk in their order, and the result is the image with all of them; or one of them is the first that is
-- refused, with its name, and there is no image.
abbrev pub IsPutImage : List ℕ → ℕ → Bool → List NamedFile → Result (Vec ℕ Global) Refusal → Type 0
IsPutImage bytes user replaces files result =
    Edited bytes (λ kind. Along (PutsOne kind user replaces) files) (λ kind. IsRefusedAlong (PutsOne kind user replaces) (StopsOne kind user replaces) name_of_file files) result
