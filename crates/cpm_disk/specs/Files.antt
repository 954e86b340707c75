-- The files of an image as a map from user and name. A file has, for each extent, a count of records and the bytes of those in its
-- blocks, and
-- two attributes. An extent has record i if i is below its count and its block is there. (CP/M 2.2 Alteration Guide, the directory.)
use Rattle.std.specs.Prelude.{◌≡◌, ◌≢◌, ◌<◌, ◌⊎◌, ◌+◌, ◌/◌, ◌%◌, ◌==◌, max, replicate, unwrap_or, ℕ, true, false, List, Option, Some, None, find, if◌then◌else◌, option_and_then, option_map, Bool}
use Rattle.cpm_image.specs.declared.directory.attribute.Attribute.{Attribute}
use Rattle.cpm_image.specs.declared.directory.attribute.Attribute.TheVariants as attribute
use Rattle.cpm_image.specs.declared.directory.entry.TheConstants.{USERS}
use Rattle.cpm_image.specs.declared.directory.layout.TheConstants.{EXTENT_RECORDS}
use Rattle.cpm_image.specs.declared.format.TheConstants.{RECORD_BYTES}
use Rattle.cpm_image.specs.Kind.{block_records}
use Rattle.cpm_image.specs.declared.kind.DiskKind.{DiskKind}
use Rattle.cpm_image.specs.declared.directory.entry.Entry.{Entry}
use Rattle.cpm_image.specs.Directory.Entries.{block, has_record, is_extent_of, place_on_disk}
use Rattle.cpm_image.specs.Directory.Letters.{name_matches}
use Rattle.cpm_image.specs.Directory.Searches.{file_is_read_only, file_is_system, is_file}
use Rattle.cpm_disk.specs.Image.{Image, directory, disk_record}

-- the number of records in an extent of a file
abbrev pub count_of : DiskKind → Image → ℕ → List ℕ → ℕ → Option ℕ
count_of kind image user name extent = option_map (λ e. e.records) (find (is_extent_of user name extent) (directory kind image))

-- the bytes for record i in an entry's block, if the entry has that block, even if i is not below the count
abbrev pub in_block : DiskKind → Image → ℕ → Entry → Option (List ℕ)
in_block kind image i e = if block kind e (i / block_records kind) == 0 then None else Some (disk_record kind image (place_on_disk kind e i))

-- the same for an extent of a file
abbrev pub block_record : DiskKind → Image → ℕ → List ℕ → ℕ → ℕ → Option (List ℕ)
block_record kind image user name extent i = option_and_then (in_block kind image i) (find (is_extent_of user name extent) (directory kind image))

-- the bytes of a record of a file, if the file has it
abbrev pub file_record : DiskKind → Image → ℕ → List ℕ → ℕ → Option (List ℕ)
file_record kind image user name number = option_and_then (λ e. if has_record kind e (number % EXTENT_RECORDS) then in_block kind image (number % EXTENT_RECORDS) e else None) (find (is_extent_of user name (number / EXTENT_RECORDS)) (directory kind image))

-- a file is as it was: its extents, their counts and records, and its attributes
pub record SameFile (kind : DiskKind) (old new : Image) (user : ℕ) (name : List ℕ) : Type 0 where
  pub counts : (extent : ℕ) → count_of kind new user name extent ≡ count_of kind old user name extent
  pub records : (extent i : ℕ) → i < EXTENT_RECORDS → block_record kind new user name extent i ≡ block_record kind old user name extent i
  pub read_only : file_is_read_only user name (directory kind new) ≡ file_is_read_only user name (directory kind old)
  pub system : file_is_system user name (directory kind new) ≡ file_is_system user name (directory kind old)

-- every file is as it was, except those that are named
abbrev pub OthersAreSame : DiskKind → Image → Image → (ℕ → List ℕ → Type 0) → Type 0
OthersAreSame kind old new named = (user : ℕ) (name : List ℕ) → user < USERS → (named user name → ⊥) → SameFile kind old new user name

-- this file of this user
abbrev pub IsFile : ℕ → List ℕ → ℕ → List ℕ → Type 0
IsFile user name other_user other_name = (other_user ≡ user) × (other_name ≡ name)

-- one of these two files of the user
abbrev pub IsEither : ℕ → List ℕ → List ℕ → ℕ → List ℕ → Type 0
IsEither user one two other_user other_name = (other_user ≡ user) × ((other_name ≡ one) ⊎ (other_name ≡ two))

-- a file of the user that matches a pattern
abbrev pub IsMatched : ℕ → List ℕ → ℕ → List ℕ → Type 0
IsMatched user pattern other_user other_name = (other_user ≡ user) × (name_matches pattern other_name ≡ true)

-- the user has no file of this name
abbrev pub IsNoFile : DiskKind → Image → ℕ → List ℕ → Type 0
IsNoFile kind image user name = (extent : ℕ) → find (is_extent_of user name extent) (directory kind image) ≡ None

-- a file that was created: one extent without records, and no attributes
pub record IsNewFile (kind : DiskKind) (image : Image) (user : ℕ) (name : List ℕ) : Type 0 where
  pub first : count_of kind image user name 0 ≡ Some 0
  pub records : (i : ℕ) → block_record kind image user name 0 i ≡ None
  pub others : (extent : ℕ) → 0 < extent → count_of kind image user name extent ≡ None
  pub read_only : file_is_read_only user name (directory kind image) ≡ false
  pub system : file_is_system user name (directory kind image) ≡ false

-- a file that was renamed: its extents, their counts and records, and its attributes are as they were; and there is no file of the old
-- name
pub record IsMoved (kind : DiskKind) (old new : Image) (user : ℕ) (from to : List ℕ) : Type 0 where
  pub counts : (extent : ℕ) → count_of kind new user to extent ≡ count_of kind old user from extent
  pub records : (extent i : ℕ) → i < EXTENT_RECORDS → block_record kind new user to extent i ≡ block_record kind old user from extent i
  pub read_only : file_is_read_only user to (directory kind new) ≡ file_is_read_only user from (directory kind old)
  pub system : file_is_system user to (directory kind new) ≡ file_is_system user from (directory kind old)
  pub gone : IsNoFile kind new user from

-- whether a file has an attribute
abbrev pub file_has : Attribute → DiskKind → Image → ℕ → List ℕ → Bool
file_has attribute.ReadOnly kind image user name = file_is_read_only user name (directory kind image)
file_has attribute.System kind image user name = file_is_system user name (directory kind image)

abbrev pub other_attribute : Attribute → Attribute
other_attribute attribute.ReadOnly = attribute.System
other_attribute attribute.System = attribute.ReadOnly

-- a file whose attribute was set or cleared: its extents, their counts and records, and its other attribute are as they were
pub record IsMarkedFile (kind : DiskKind) (old new : Image) (user : ℕ) (name : List ℕ) (which : Attribute) (on : Bool) : Type 0 where
  pub counts : (extent : ℕ) → count_of kind new user name extent ≡ count_of kind old user name extent
  pub records : (extent i : ℕ) → i < EXTENT_RECORDS → block_record kind new user name extent i ≡ block_record kind old user name extent i
  pub marked : is_file user name (directory kind old) ≡ true → file_has which kind new user name ≡ on
  pub other : file_has (other_attribute which) kind new user name ≡ file_has (other_attribute which) kind old user name

-- A record of a file was written. The other records in its block are as they were, or zeros if the block is new; the rest of the file is
-- as it was.
pub record HasRecord (kind : DiskKind) (old new : Image) (user : ℕ) (name : List ℕ) (number : ℕ) (bytes : List ℕ) : Type 0 where
  pub count : count_of kind new user name (number / EXTENT_RECORDS) ≡ Some (max (unwrap_or (count_of kind old user name (number / EXTENT_RECORDS)) 0) (number % EXTENT_RECORDS + 1))
  pub here : block_record kind new user name (number / EXTENT_RECORDS) (number % EXTENT_RECORDS) ≡ Some bytes
  pub block : (i : ℕ) → i < EXTENT_RECORDS → i ≢ number % EXTENT_RECORDS → i / block_records kind ≡ number % EXTENT_RECORDS / block_records kind → block_record kind new user name (number / EXTENT_RECORDS) i ≡ Some (unwrap_or (block_record kind old user name (number / EXTENT_RECORDS) i) (replicate RECORD_BYTES 0))
  pub extent : (i : ℕ) → i < EXTENT_RECORDS → i / block_records kind ≢ number % EXTENT_RECORDS / block_records kind → block_record kind new user name (number / EXTENT_RECORDS) i ≡ block_record kind old user name (number / EXTENT_RECORDS) i
  pub counts : (other : ℕ) → other ≢ number / EXTENT_RECORDS → count_of kind new user name other ≡ count_of kind old user name other
  pub records : (other i : ℕ) → other ≢ number / EXTENT_RECORDS → i < EXTENT_RECORDS → block_record kind new user name other i ≡ block_record kind old user name other i
  pub read_only : file_is_read_only user name (directory kind new) ≡ file_is_read_only user name (directory kind old)
  pub system : file_is_system user name (directory kind new) ≡ file_is_system user name (directory kind old)

-- The records that a file has are as they were, and so are the counts of its extents and its attributes.
pub record HasSameRecords (kind : DiskKind) (old new : Image) (user : ℕ) (name : List ℕ) : Type 0 where
  pub counts : (extent : ℕ) → count_of kind new user name extent ≡ count_of kind old user name extent
  pub records : (number : ℕ) → file_record kind new user name number ≡ file_record kind old user name number
  pub read_only : file_is_read_only user name (directory kind new) ≡ file_is_read_only user name (directory kind old)
  pub system : file_is_system user name (directory kind new) ≡ file_is_system user name (directory kind old)
