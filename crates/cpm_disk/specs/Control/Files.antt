-- Questions to a disk that change nothing. A disk that has failed finds nothing, and its entries are all E5H.
use Rattle.std.specs.Prelude.{◌+◌, ℕ, List, Option, Some, None, drop, position, replicate, if◌then◌else◌}
use Rattle.cpm_image.specs.declared.format.TheConstants.{BLANK}
use Rattle.cpm_image.specs.declared.directory.entry.Entry.{Entry}
use Rattle.cpm_image.specs.declared.directory.layout.TheConstants.{ENTRY_BYTES}
use Rattle.cpm_image.specs.declared.directory.pattern.Pattern.{Pattern}
use Rattle.cpm_image.specs.Directory.Entries.{at, bytes_of, is_extent_of}
use Rattle.cpm_image.specs.Directory.Searches.{found_from, size}
use Rattle.cpm_disk.specs.Calls.{Mounted}
use Rattle.cpm_disk.specs.Image.{Image, directory}
use Rattle.cpm_disk.specs.Control.Bytes.{with_bytes}

-- the directory entries of a disk
abbrev pub entries : {S : Type 0} → (S → Image) → Mounted S → List Entry
entries sectors disk = directory disk.kind (sectors disk.device)

-- the number of the first entry of a user from a number on that matches a pattern
abbrev pub entry_found : {S : Type 0} → (S → Image) → Mounted S → ℕ → Pattern → ℕ → Option ℕ
entry_found sectors disk user pattern from = if disk.failed then None else found_from user pattern from (entries sectors disk)

-- the number of the directory entry of a file's extent
abbrev pub extent_found : {S : Type 0} → (S → Image) → Mounted S → ℕ → List ℕ → ℕ → Option ℕ
extent_found sectors disk user name number = if disk.failed then None else position (is_extent_of user name number) (entries sectors disk)

-- the 32 bytes of an entry
abbrev pub entry_bytes : {S : Type 0} → (S → Image) → Mounted S → ℕ → List ℕ
entry_bytes sectors disk k = if disk.failed then replicate ENTRY_BYTES BLANK else bytes_of (at (entries sectors disk) k)

-- memory after the bytes of an entry from an offset on are copied to a file control block; unchanged if there is no entry
abbrev pub with_entry : {S : Type 0} → (S → Image) → Mounted S → ℕ → ℕ → Option ℕ → List ℕ → List ℕ
with_entry sectors disk offset address (Some k) memory = with_bytes (address + offset) (drop offset (entry_bytes sectors disk k)) memory
with_entry sectors disk offset address None memory = memory

-- the number of records up to a file's last one
abbrev pub file_size : {S : Type 0} → (S → Image) → Mounted S → ℕ → List ℕ → Option ℕ
file_size sectors disk user name = if disk.failed then None else size user name (entries sectors disk)
