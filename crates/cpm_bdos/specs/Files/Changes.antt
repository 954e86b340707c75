-- Functions 22, 19 and 23: make, erase and rename files. (CP/M 2.2 Interface Guide.)
use Rattle.std.specs.Prelude.{◌≡◌, ◌+◌, ◌-◌, ◌%◌, ℕ, List, Result, Ok, Err, replicate, ⊤}
use Rattle.cpm_image.specs.declared.directory.layout.TheConstants.{ENTRY_BYTES, EX_OFFSET, RECORD_ENTRIES}
use Rattle.cpm_image.specs.declared.directory.fault.DiskFault.{DiskFault}
use Rattle.cpm_image.specs.declared.directory.fault.DiskFault.TheVariants as fault
use Rattle.cpm_image.specs.Directory.Letters.{letters}
use Rattle.cpm_disk.specs.Calls.{Mounted}
use Rattle.cpm_disk.specs.Image.{Image}
use Rattle.cpm_disk.specs.Operations.{IsCreated, IsErased, IsRenamed}
use Rattle.cpm_disk.specs.declared.control.stop.Stop.{Stop}
use Rattle.cpm_disk.specs.Control.Bytes.{with_bytes}
use Rattle.cpm_disk.specs.Control.Stops.{Done, Ends, Unless, done, stop_of}
use Rattle.cpm_disk.specs.Control.Fcbs.{drive_judged, fcb_at, file_judged, name_of, names_judged, new_name_of}

-- function 22: bytes 12 to 31 of the file control block become 0
abbrev pub make_answer : ℕ → List ℕ → Result ℕ DiskFault → Result Done Stop
make_answer address memory (Ok k) = done (k % RECORD_ENTRIES) (with_bytes (address + EX_OFFSET) (replicate (ENTRY_BYTES - EX_OFFSET) 0) memory)
make_answer address memory (Err fault.Exists) = done 0xFF memory
make_answer address memory (Err fault.DirectoryFull) = done 0xFF memory
make_answer address memory (Err refusal) = Err (stop_of refusal)

abbrev pub Makes : {S : Type 0} → (S → Image) → (S → ℕ) → Mounted S → Mounted S → ℕ → ℕ → List ℕ → List ℕ → Result ℕ Stop → Type 0
Makes sectors faults old new user address before now result =
    let fcb = fcb_at address before in
    Unless (file_judged fcb) old new before now result
    ((reply : Result ℕ DiskFault) × IsCreated sectors faults old new user (letters (name_of fcb)) reply × Ends (make_answer address before reply) before now result)

-- function 19: a `?` in the name matches any byte
abbrev pub erase_answer : Result ℕ DiskFault → Result ℕ Stop
erase_answer (Ok count) = Ok 0
erase_answer (Err fault.NotFound) = Ok 0xFF
erase_answer (Err refusal) = Err (stop_of refusal)

abbrev pub ErasesFiles : {S : Type 0} → (S → Image) → (S → ℕ) → Mounted S → Mounted S → ℕ → ℕ → List ℕ → Result ℕ Stop → Type 0
ErasesFiles sectors faults old new user address memory result =
    let fcb = fcb_at address memory in
    Unless (drive_judged fcb) old new memory memory result
    ((reply : Result ℕ DiskFault) × IsErased sectors faults old new user (name_of fcb) reply × (result ≡ erase_answer reply))

-- function 23: a `?` in either name stops the call
abbrev pub rename_answer : Result ⊤ DiskFault → Result ℕ Stop
rename_answer (Ok done) = Ok 0
rename_answer (Err fault.NotFound) = Ok 0xFF
rename_answer (Err fault.Exists) = Ok 0xFF
rename_answer (Err refusal) = Err (stop_of refusal)

abbrev pub RenamesFile : {S : Type 0} → (S → Image) → (S → ℕ) → Mounted S → Mounted S → ℕ → ℕ → List ℕ → Result ℕ Stop → Type 0
RenamesFile sectors faults old new user address memory result =
    let fcb = fcb_at address memory in
    Unless (names_judged fcb) old new memory memory result
    ((reply : Result ⊤ DiskFault) × IsRenamed sectors faults old new user (letters (name_of fcb)) (letters (new_name_of fcb)) reply × (result ≡ rename_answer reply))
