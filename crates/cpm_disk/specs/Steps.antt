-- What each operation leaves of a directory, or the first reason to refuse it.
use Rattle.std.specs.Prelude.{ℕ, ◌/◌, ◌%◌, ◌==◌, Bool, true, false, ◌&&◌, not, List, Option, Some, None, Result, Ok, Err, if◌then◌else◌, count_by, find, position, map, nat_lt, ⊤}
use Rattle.std.specs.List.{list_any}
use Rattle.cpm_image.specs.Kind.{block_records, file_records}
use Rattle.cpm_image.specs.declared.kind.DiskKind.{DiskKind}
use Rattle.cpm_image.specs.declared.directory.attribute.Attribute.{Attribute}
use Rattle.cpm_image.specs.declared.directory.entry.Entry.{Entry}
use Rattle.cpm_image.specs.declared.directory.fault.DiskFault.{DiskFault}
use Rattle.cpm_image.specs.declared.directory.layout.TheConstants.{EXTENT_RECORDS}
use Rattle.cpm_disk.specs.declared.placement.Placement.{Placement}
use Rattle.cpm_image.specs.declared.directory.fault.DiskFault.TheVariants as fault
use Rattle.cpm_image.specs.Directory.Entries.{at, block, erased, has_record, is_extent_of, is_match, is_of, is_read_only, marked, new_extent, place_on_disk, renamed, with_record}
use Rattle.cpm_image.specs.Directory.Searches.{file_is_read_only, free_block, free_entry, is_file}
pub use Rattle.common.specs.Results.{◌>>=◌}

-- refuses with `e` if the test is true, and otherwise continues with `rest`
abbrev pub unless : {A : Type 0} → Bool → DiskFault → Result A DiskFault → Result A DiskFault
unless test e rest = if test then Err e else rest

-- the value of an option, or the refusal `e` if it has none
abbrev pub some_or : {A : Type 0} → Option A → DiskFault → Result A DiskFault
some_or (Some x) e = Ok x
some_or None e = Err e

-- the entry of a new file, and its number, the lowest that is free
abbrev pub creation : ℕ → List ℕ → List Entry → Result (ℕ × Entry) DiskFault
creation user name entries =
    unless (is_file user name entries) fault.Exists
    (some_or (free_entry entries) fault.DirectoryFull >>= λ k.
    Ok (k, new_extent user name 0))

-- the number of entries to erase: all that match; refused if none matches, or if one that matches is read-only
abbrev pub erasure : ℕ → List ℕ → List Entry → Result ℕ DiskFault
erasure user pattern entries =
    unless (not (list_any (is_match user pattern) entries)) fault.NotFound
    (unless (list_any (λ e. is_match user pattern e && is_read_only e) entries) fault.ReadOnly
    (Ok (count_by (is_match user pattern) entries)))

-- what erasing leaves of one entry, and of the directory
abbrev pub erased_by : ℕ → List ℕ → Entry → Entry
erased_by user pattern e = if is_match user pattern e then erased e else e

abbrev pub after_erasure : ℕ → List ℕ → List Entry → List Entry
after_erasure user pattern entries = map (erased_by user pattern) entries

-- the number of entries to mark: all that match, even those of a read-only file; refused if none matches
abbrev pub marking : ℕ → List ℕ → List Entry → Result ℕ DiskFault
marking user pattern entries =
    unless (not (list_any (is_match user pattern) entries)) fault.NotFound
    (Ok (count_by (is_match user pattern) entries))

-- what marking leaves of one entry, and of the directory
abbrev pub marked_by : ℕ → List ℕ → Attribute → Bool → Entry → Entry
marked_by user pattern attribute on e = if is_match user pattern e then marked attribute on e else e

abbrev pub after_marking : ℕ → List ℕ → Attribute → Bool → List Entry → List Entry
after_marking user pattern attribute on entries = map (marked_by user pattern attribute on) entries

-- whether a file may be renamed, or the first reason why not: it does not exist, there is a file of the new name, or it is read-only
abbrev pub renaming : ℕ → List ℕ → List ℕ → List Entry → Result ⊤ DiskFault
renaming user old new entries =
    unless (not (is_file user old entries)) fault.NotFound
    (unless (is_file user new entries) fault.Exists
    (unless (file_is_read_only user old entries) fault.ReadOnly
    (Ok tt)))

-- what renaming leaves of one entry, and of the directory
abbrev pub renamed_by : ℕ → List ℕ → List ℕ → Entry → Entry
renamed_by user old new e = if is_of user old e then renamed new e else e

abbrev pub after_renaming : ℕ → List ℕ → List ℕ → List Entry → List Entry
after_renaming user old new entries = map (renamed_by user old new) entries

-- the logical record of the disk for record i of an extent; refused if the extent does not have it
abbrev pub written_place : DiskKind → ℕ → Entry → Result ℕ DiskFault
written_place kind i e = unless (not (has_record kind e i)) fault.Unwritten (Ok (place_on_disk kind e i))

-- the logical record of the disk for a record of a file, or the first reason why the record cannot be read
abbrev pub reading : DiskKind → ℕ → List ℕ → ℕ → List Entry → Result ℕ DiskFault
reading kind user name number entries =
    unless (not (is_file user name entries)) fault.NotFound
    (unless (not (nat_lt number (file_records kind))) fault.TooFar
    (some_or (find (is_extent_of user name (number / EXTENT_RECORDS)) entries) fault.NoExtent >>= written_place kind (number % EXTENT_RECORDS)))

-- the number and the entry of a file's extent: the one that it has, otherwise a new extent at the lowest free number, with the name in
-- the file's lowest entry
abbrev pub found_or_new : ℕ → List ℕ → ℕ → List Entry → Option ℕ → Result (ℕ × Entry) DiskFault
found_or_new user name extent entries (Some k) = Ok (k, at entries k)
found_or_new user name extent entries None =
    some_or (free_entry entries) fault.DirectoryFull >>= λ k.
    some_or (find (is_of user name) entries) fault.NotFound >>= λ e.
    Ok (k, new_extent user e.name extent)

abbrev pub extent_place : ℕ → List ℕ → ℕ → List Entry → Result (ℕ × Entry) DiskFault
extent_place user name extent entries = found_or_new user name extent entries (position (is_extent_of user name extent) entries)

-- the block of a group of records, and whether it is new: the block that the entry has, otherwise the lowest free one
abbrev pub block_place : DiskKind → Entry → ℕ → List Entry → Result (ℕ × Bool) DiskFault
block_place kind e group entries = if block kind e group == 0
    then (some_or (free_block kind entries) fault.DiskFull >>= λ b. Ok (b, true))
    else Ok (block kind e group, false)

-- where to write record i of the extent whose entry e has number k: the entry after the write, the block, and whether the block is new
abbrev pub placing_in : DiskKind → ℕ → Entry → ℕ → List Entry → Result Placement DiskFault
placing_in kind k e i entries =
    block_place kind e (i / block_records kind) entries >>= λ found.
    Ok (record { entry_number = k; entry = with_record kind e i found.0; block = found.0; is_new = found.1 })

-- where to write a record of a file
abbrev pub placing : DiskKind → ℕ → List ℕ → ℕ → List Entry → Result Placement DiskFault
placing kind user name number entries =
    extent_place user name (number / EXTENT_RECORDS) entries >>= λ place.
    placing_in kind place.0 place.1 (number % EXTENT_RECORDS) entries

abbrev pub writing : DiskKind → ℕ → List ℕ → ℕ → List Entry → Result Placement DiskFault
writing kind user name number entries =
    unless (not (is_file user name entries)) fault.NotFound
    (unless (file_is_read_only user name entries) fault.ReadOnly
    (unless (not (nat_lt number (file_records kind))) fault.TooFar
    (placing kind user name number entries)))
