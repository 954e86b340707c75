-- The part of a directory entry that goes to the file control block after a record was read or written. (CP/M 2.2 Interface Guide.)
use Rattle.std.specs.Prelude.{◌/◌, ℕ, List}
use Rattle.cpm_image.specs.declared.directory.layout.TheConstants.{EXTENT_RECORDS, RC_OFFSET}
use Rattle.cpm_disk.specs.Calls.{Mounted}
use Rattle.cpm_disk.specs.Image.{Image}
use Rattle.cpm_disk.specs.Control.Files.{extent_found, with_entry}

-- bytes 15 to 31 of the file control block become those of the entry of a record's extent
abbrev pub with_extent_entry : {S : Type 0} → (S → Image) → Mounted S → ℕ → List ℕ → ℕ → ℕ → List ℕ → List ℕ
with_extent_entry sectors disk user name number address memory = with_entry sectors disk RC_OFFSET address (extent_found sectors disk user name (number / EXTENT_RECORDS)) memory
