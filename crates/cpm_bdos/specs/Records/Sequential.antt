-- Functions 20 and 21: read and write records one after the other. (CP/M 2.2 Interface Guide.)
use Rattle.std.specs.Prelude.{◌≡◌, ◌+◌, ◌==◌, ℕ, List, [], ◌∷◌, Option, Some, None, Result, Ok, Err, if◌then◌else◌, ⊤}
use Rattle.cpm_image.specs.declared.kind.DiskKind.{DiskKind}
use Rattle.cpm_image.specs.declared.format.TheConstants.{RECORD_BYTES}
use Rattle.cpm_image.specs.declared.directory.layout.TheConstants.{EX_OFFSET, EXTENT_RECORDS, S2_OFFSET}
use Rattle.cpm_image.specs.declared.directory.fault.DiskFault.{DiskFault}
use Rattle.cpm_image.specs.declared.directory.fault.DiskFault.TheVariants as fault
use Rattle.cpm_image.specs.Directory.Letters.{letters}
use Rattle.cpm_disk.specs.Calls.{Mounted}
use Rattle.cpm_disk.specs.Image.{Image}
use Rattle.cpm_disk.specs.Operations.{IsRecordRead, IsRecordWritten}
use Rattle.cpm_disk.specs.declared.control.fcb.TheConstants.{CR_OFFSET}
use Rattle.cpm_disk.specs.declared.control.stop.Stop.{Stop}
use Rattle.cpm_disk.specs.Control.Bytes.{bytes_at, with_bytes}
use Rattle.cpm_disk.specs.Control.Stops.{Done, Ends, Unless, unless_stopped, done, stop_of}
use Rattle.cpm_disk.specs.Control.Fcbs.{fcb_at, file_judged, name_of}
use Rattle.cpm_bdos.specs.declared.records.place.Place.{Place}
use Rattle.cpm_bdos.specs.Records.Places.{place_judged, place_of, record_at, turned}
use Rattle.cpm_bdos.specs.Records.Entries.{with_extent_entry}

-- The new position in the file control block. CR becomes the number after the record's. If CR was 128, EX becomes that of the next
-- extent, and if S2 went up, it is written too. Only these bytes are written here, so if the DMA buffer overlaps the file control block,
-- its other bytes are those of the record.
abbrev pub with_extent : ℕ → Place → Place → List ℕ → List ℕ
with_extent address old new memory = if old.current == EXTENT_RECORDS then with_bytes (address + EX_OFFSET) (new.extent ∷ []) memory else memory

abbrev pub with_s2 : ℕ → Place → Place → List ℕ → List ℕ
with_s2 address old new memory = if old.s2 == new.s2 then memory else with_bytes (address + S2_OFFSET) (new.s2 ∷ []) memory

abbrev pub with_place : ℕ → Place → Place → List ℕ → List ℕ
with_place address old new memory = with_bytes (address + CR_OFFSET) ((new.current + 1) ∷ []) (with_s2 address old new (with_extent address old new memory))

-- what stops a call before the disk is used: drive, name, and EX, S2 and CR
abbrev pub sequential_judged : DiskKind → List ℕ → Result ⊤ Stop
sequential_judged kind fcb = unless_stopped (file_judged fcb) (place_judged kind (place_of fcb))

-- If there is no next extent, the call answers `full`, and the disk is not used.
abbrev pub InTurn : {D : Type 0} → Option Place → ℕ → D → D → List ℕ → List ℕ → Result ℕ Stop → (Place → Type 0) → Type 0
InTurn (Some place) full old new before now result asked = asked place
InTurn None full old new before now result asked = (result ≡ Ok full) × (new ≡ old) × (now ≡ before)

-- If there is no such record, the answer is 1, and the file control block stays as it is.
abbrev pub refused_read : List ℕ → DiskFault → Result Done Stop
refused_read memory fault.NotFound = done 1 memory
refused_read memory fault.NoExtent = done 1 memory
refused_read memory fault.Unwritten = done 1 memory
refused_read memory fault.TooFar = done 1 memory
refused_read memory refusal = Err (stop_of refusal)

-- function 20: the record is copied to the DMA buffer, and then the file control block changes
abbrev pub read_next : {S : Type 0} → (S → Image) → Mounted S → ℕ → ℕ → ℕ → Place → Place → List ℕ → Result (List ℕ) DiskFault → Result Done Stop
read_next sectors disk user dma address old new memory (Ok bytes) =
    let name = letters (name_of (fcb_at address memory)) in
    done 0 (with_extent_entry sectors disk user name (record_at disk.kind new) address (with_place address old new (with_bytes dma bytes memory)))
read_next sectors disk user dma address old new memory (Err refusal) = refused_read memory refusal

abbrev pub ReadsNext : {S : Type 0} → (S → Image) → (S → ℕ) → Mounted S → Mounted S → ℕ → ℕ → ℕ → List ℕ → List ℕ → Result ℕ Stop → Type 0
ReadsNext sectors faults old new user dma address before now result =
    let fcb = fcb_at address before in
    let place = place_of fcb in
    Unless (sequential_judged old.kind fcb) old new before now result
    (InTurn (turned old.kind place) 1 old new before now result (λ next.
    (reply : Result (List ℕ) DiskFault)
    × IsRecordRead sectors faults old new user (letters (name_of fcb)) (record_at old.kind next) reply
    × Ends (read_next sectors new user dma address place next before reply) before now result))

-- function 21 if the disk refuses: 1 for a full directory, 2 for a full disk or a record that no file can have
abbrev pub refused_write : List ℕ → DiskFault → Result Done Stop
refused_write memory fault.DirectoryFull = done 1 memory
refused_write memory fault.DiskFull = done 2 memory
refused_write memory fault.TooFar = done 2 memory
refused_write memory refusal = Err (stop_of refusal)

-- function 21
abbrev pub write_next : {S : Type 0} → (S → Image) → Mounted S → ℕ → ℕ → Place → Place → List ℕ → Result ⊤ DiskFault → Result Done Stop
write_next sectors disk user address old new memory (Ok written) =
    let name = letters (name_of (fcb_at address memory)) in
    done 0 (with_extent_entry sectors disk user name (record_at disk.kind new) address (with_place address old new memory))
write_next sectors disk user address old new memory (Err refusal) = refused_write memory refusal

abbrev pub WritesNext : {S : Type 0} → (S → Image) → (S → ℕ) → Mounted S → Mounted S → ℕ → ℕ → ℕ → List ℕ → List ℕ → Result ℕ Stop → Type 0
WritesNext sectors faults old new user dma address before now result =
    let fcb = fcb_at address before in
    let place = place_of fcb in
    Unless (sequential_judged old.kind fcb) old new before now result
    (InTurn (turned old.kind place) 2 old new before now result (λ next.
    (reply : Result ⊤ DiskFault)
    × IsRecordWritten sectors faults old new user (letters (name_of fcb)) (record_at old.kind next) (bytes_at dma RECORD_BYTES before) reply
    × Ends (write_next sectors new user address place next before reply) before now result))
