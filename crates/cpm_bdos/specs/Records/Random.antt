-- Functions 33 and 34: read and write records by number. (CP/M 2.2 Interface Guide.)
use Rattle.std.specs.Prelude.{◌≡◌, ◌+◌, ◌/◌, ◌%◌, ◌==◌, ◌&&◌, ℕ, Bool, true, false, nat_lt, List, [], ◌∷◌, Result, Ok, Err, ⊤}
use Rattle.cpm_image.specs.Kind.{file_records}
use Rattle.cpm_image.specs.declared.kind.DiskKind.{DiskKind}
use Rattle.cpm_image.specs.declared.format.TheConstants.{RECORD_BYTES}
use Rattle.cpm_image.specs.declared.directory.layout.TheConstants.{EX_OFFSET, EXTENT_RECORDS, S2_EXTENTS, S2_OFFSET, S2_RECORDS}
use Rattle.cpm_image.specs.declared.directory.fault.DiskFault.{DiskFault}
use Rattle.cpm_image.specs.declared.directory.fault.DiskFault.TheVariants as fault
use Rattle.cpm_image.specs.Directory.Letters.{letters}
use Rattle.cpm_disk.specs.Calls.{Mounted}
use Rattle.cpm_disk.specs.Image.{Image}
use Rattle.cpm_disk.specs.Operations.{IsRecordRead, IsRecordWritten}
use Rattle.cpm_disk.specs.declared.control.fcb.TheConstants.{CR_OFFSET}
use Rattle.cpm_disk.specs.declared.control.stop.Stop.{Stop}
use Rattle.cpm_disk.specs.Control.Bytes.{bytes_at, with_bytes}
use Rattle.cpm_disk.specs.Control.Stops.{Done, Ends, Unless, done, stop_of}
use Rattle.cpm_disk.specs.Control.Fcbs.{fcb_at, file_judged, name_of, overflow_of, random_of}
use Rattle.cpm_bdos.specs.Records.Entries.{with_extent_entry}

-- EX, S2 and CR are set to the position of the record, even if there is no such record; a stop leaves them as they were
abbrev pub with_place_of : ℕ → ℕ → List ℕ → List ℕ
with_place_of address number memory =
    with_bytes (address + CR_OFFSET) ((number % EXTENT_RECORDS) ∷ [])
    (with_bytes (address + S2_OFFSET) ((number / S2_RECORDS) ∷ [])
    (with_bytes (address + EX_OFFSET) ((number / EXTENT_RECORDS % S2_EXTENTS) ∷ []) memory))

-- whether a file can have the record with the number in R0 to R2
abbrev pub can_have_record : DiskKind → List ℕ → Bool
can_have_record kind fcb = (overflow_of fcb == 0) && nat_lt (random_of fcb) (file_records kind)

-- For a record that no file can have, the answer is 6, the disk is not used, and nothing changes.
abbrev pub Within : {D : Type 0} → Bool → D → D → List ℕ → List ℕ → Result ℕ Stop → Type 0 → Type 0
Within true old new before now result asked = asked
Within false old new before now result asked = (result ≡ Ok 6) × (new ≡ old) × (now ≡ before)

-- function 33 if the disk refuses: 1 for a record that was never written, 4 for an extent or a file that is not there
abbrev pub refused_random_read : ℕ → ℕ → List ℕ → DiskFault → Result Done Stop
refused_random_read address number memory fault.NotFound = done 4 (with_place_of address number memory)
refused_random_read address number memory fault.NoExtent = done 4 (with_place_of address number memory)
refused_random_read address number memory fault.Unwritten = done 1 (with_place_of address number memory)
refused_random_read address number memory refusal = Err (stop_of refusal)

-- function 33: the record is copied to the DMA buffer, and then the file control block changes
abbrev pub read_at : {S : Type 0} → (S → Image) → Mounted S → ℕ → ℕ → ℕ → ℕ → List ℕ → Result (List ℕ) DiskFault → Result Done Stop
read_at sectors disk user dma address number memory (Ok bytes) =
    let name = letters (name_of (fcb_at address memory)) in
    done 0 (with_extent_entry sectors disk user name number address (with_place_of address number (with_bytes dma bytes memory)))
read_at sectors disk user dma address number memory (Err refusal) = refused_random_read address number memory refusal

abbrev pub ReadsAt : {S : Type 0} → (S → Image) → (S → ℕ) → Mounted S → Mounted S → ℕ → ℕ → ℕ → List ℕ → List ℕ → Result ℕ Stop → Type 0
ReadsAt sectors faults old new user dma address before now result =
    let fcb = fcb_at address before in
    Unless (file_judged fcb) old new before now result
    (Within (can_have_record old.kind fcb) old new before now result
    ((reply : Result (List ℕ) DiskFault)
    × IsRecordRead sectors faults old new user (letters (name_of fcb)) (random_of fcb) reply
    × Ends (read_at sectors new user dma address (random_of fcb) before reply) before now result))

-- function 34 if the disk refuses: 2 for a full disk, 5 for a full directory
abbrev pub refused_random_write : ℕ → ℕ → List ℕ → DiskFault → Result Done Stop
refused_random_write address number memory fault.DiskFull = done 2 (with_place_of address number memory)
refused_random_write address number memory fault.DirectoryFull = done 5 (with_place_of address number memory)
refused_random_write address number memory refusal = Err (stop_of refusal)

-- function 34
abbrev pub write_at : {S : Type 0} → (S → Image) → Mounted S → ℕ → ℕ → ℕ → List ℕ → Result ⊤ DiskFault → Result Done Stop
write_at sectors disk user address number memory (Ok written) =
    let name = letters (name_of (fcb_at address memory)) in
    done 0 (with_extent_entry sectors disk user name number address (with_place_of address number memory))
write_at sectors disk user address number memory (Err refusal) = refused_random_write address number memory refusal

abbrev pub WritesAt : {S : Type 0} → (S → Image) → (S → ℕ) → Mounted S → Mounted S → ℕ → ℕ → ℕ → List ℕ → List ℕ → Result ℕ Stop → Type 0
WritesAt sectors faults old new user dma address before now result =
    let fcb = fcb_at address before in
    Unless (file_judged fcb) old new before now result
    (Within (can_have_record old.kind fcb) old new before now result
    ((reply : Result ⊤ DiskFault)
    × IsRecordWritten sectors faults old new user (letters (name_of fcb)) (random_of fcb) (bytes_at dma RECORD_BYTES before) reply
    × Ends (write_at sectors new user address (random_of fcb) before reply) before now result))
