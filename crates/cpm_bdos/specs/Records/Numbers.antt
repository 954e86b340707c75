-- Functions 35 and 36: the size of a file, and the number of the record that a file control block is at, in R0 to R2. (CP/M 2.2 Interface
-- Guide.)
use Rattle.std.specs.Prelude.{◌+◌, ◌/◌, ◌%◌, ℕ, List, [], ◌∷◌, Option, Some, None, Result}
use Rattle.cpm_image.specs.Directory.Letters.{letters}
use Rattle.cpm_disk.specs.Calls.{Mounted}
use Rattle.cpm_disk.specs.Image.{Image}
use Rattle.cpm_image.specs.declared.kind.DiskKind.{DiskKind}
use Rattle.cpm_disk.specs.declared.control.fcb.TheConstants.{R0_OFFSET}
use Rattle.cpm_disk.specs.declared.control.stop.Stop.{Stop}
use Rattle.cpm_disk.specs.Control.Bytes.{with_bytes}
use Rattle.cpm_disk.specs.Control.Stops.{Done, unless_stopped, done}
use Rattle.cpm_disk.specs.Control.Fcbs.{fcb_at, file_judged, name_of}
use Rattle.cpm_disk.specs.Control.Files.{file_size}
use Rattle.cpm_bdos.specs.Records.Places.{place_of, record_at}

-- a number of 24 bits in R0 to R2, low byte first
abbrev pub with_random : ℕ → ℕ → List ℕ → List ℕ
with_random address number memory = with_bytes (address + R0_OFFSET) ((number % 256) ∷ (number / 256 % 256) ∷ (number / 65536) ∷ []) memory

-- function 35: the size; or FFH, with 0 as the size, if there is no such file
abbrev pub size_stored_as : ℕ → List ℕ → Option ℕ → Result Done Stop
size_stored_as address memory (Some size) = done 0 (with_random address size memory)
size_stored_as address memory None = done 0xFF (with_random address 0 memory)

abbrev pub size_stored : {S : Type 0} → (S → Image) → Mounted S → ℕ → ℕ → List ℕ → Result Done Stop
size_stored sectors disk user address memory =
    let fcb = fcb_at address memory in
    unless_stopped (file_judged fcb) (size_stored_as address memory (file_size sectors disk user (letters (name_of fcb))))

-- function 36: the number of the record that EX and CR, and on a Megabyte disk S2, give; any values are accepted
abbrev pub record_number_stored : DiskKind → ℕ → List ℕ → Result Done Stop
record_number_stored kind address memory =
    let fcb = fcb_at address memory in
    unless_stopped (file_judged fcb) (done 0 (with_random address (record_at kind (place_of fcb)) memory))
