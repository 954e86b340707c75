-- Operations on a record of a file, if the directory entry of its extent is known.
use Rattle.std.specs.Prelude.{◌≡◌, ◌<◌, ◌/◌, ℕ, List, length, true}
use Rattle.cpm_image.specs.Kind.{file_records}
use Rattle.cpm_image.specs.declared.kind.DiskKind.{DiskKind}
use Rattle.cpm_image.specs.declared.directory.entry.Entry.{Entry}
use Rattle.cpm_image.specs.declared.directory.layout.TheConstants.{EXTENT_RECORDS}
use Rattle.cpm_image.specs.Directory.Entries.{at, is_extent_of}

-- a file can have a record with this number, and entry k is that of its extent
pub record IsExtentAt (kind : DiskKind) (user : ℕ) (name : List ℕ) (number : ℕ) (entries : List Entry) (k : ℕ) : Type 0 where
  pub near : number < file_records kind
  pub within : k < length entries
  pub of_extent : is_extent_of user name (number / EXTENT_RECORDS) (at entries k) ≡ true
