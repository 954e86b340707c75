-- Functions 15 and 16: open and close files. (CP/M 2.2 Interface Guide.)
use Rattle.std.specs.Prelude.{◌+◌, ◌*◌, ◌%◌, ℕ, nat_le, List, Option, Some, None, Result, Ok, if◌then◌else◌}
use Rattle.cpm_image.specs.declared.directory.layout.TheConstants.{LAST_EXTENT, NAME_OFFSET, RECORD_ENTRIES, S2_EXTENTS, S2_VALUES}
use Rattle.cpm_image.specs.declared.kind.DiskKind.{DiskKind}
use Rattle.cpm_image.specs.declared.kind.DiskKind.TheVariants.{EightInch, Megabyte}
use Rattle.cpm_image.specs.declared.directory.pattern.Pattern.{Pattern}
use Rattle.cpm_image.specs.Directory.Letters.{letters}
use Rattle.cpm_disk.specs.Calls.{Mounted}
use Rattle.cpm_disk.specs.Image.{Image}
use Rattle.cpm_disk.specs.declared.control.stop.Stop.{Stop}
use Rattle.cpm_disk.specs.Control.Stops.{Done, unless_stopped, done}
use Rattle.cpm_disk.specs.Control.Fcbs.{drive_judged, extent_of, fcb_at, file_judged, name_of, s2_of}
use Rattle.cpm_disk.specs.Control.Files.{extent_found, entry_found, with_entry}

-- the number of an entry modulo 4, or FFH
abbrev pub code_of : Option ℕ → ℕ
code_of (Some k) = k % RECORD_ENTRIES
code_of None = 0xFF

-- Function 15 searches for bytes 1 to 12 of the file control block, with S2 taken as 0; a `?` in them matches any byte.
abbrev pub open_pattern : List ℕ → Pattern
open_pattern fcb = record { name = name_of fcb; extent = extent_of fcb; high = 0 }

-- function 15: bytes 1 to 31 of the entry are copied to the file control block
abbrev pub open_answer : {S : Type 0} → (S → Image) → Mounted S → ℕ → ℕ → List ℕ → Result Done Stop
open_answer sectors disk user address memory =
    let fcb = fcb_at address memory in
    let entry = entry_found sectors disk user (open_pattern fcb) 0 in
    unless_stopped (drive_judged fcb) (done (code_of entry) (with_entry sectors disk NAME_OFFSET address entry memory))

-- the number of the extent that a file control block is at: EX and, only on a Megabyte disk, 32 times the low six bits of S2
abbrev pub fcb_extent_number : DiskKind → List ℕ → ℕ
fcb_extent_number EightInch fcb = extent_of fcb
fcb_extent_number Megabyte fcb = S2_EXTENTS * (s2_of fcb % S2_VALUES) + extent_of fcb

-- the directory entry of that extent; there is none for an EX above 31
abbrev pub extent_entry : {S : Type 0} → (S → Image) → Mounted S → ℕ → List ℕ → Option ℕ
extent_entry sectors disk user fcb =
    if nat_le (extent_of fcb) LAST_EXTENT then extent_found sectors disk user (letters (name_of fcb)) (fcb_extent_number disk.kind fcb) else None

-- function 16
abbrev pub closed : {S : Type 0} → (S → Image) → Mounted S → ℕ → ℕ → List ℕ → Result ℕ Stop
closed sectors disk user address memory =
    let fcb = fcb_at address memory in
    unless_stopped (file_judged fcb) (Ok (code_of (extent_entry sectors disk user fcb)))
