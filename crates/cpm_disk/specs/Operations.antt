-- What each call of a mounted disk that changes or reads records answers and leaves.
use Rattle.std.specs.Prelude.{◌≡◌, ◌%◌, ℕ, Bool, List, Result, slice_set}
use Rattle.cpm_image.specs.Kind.{block_records}
use Rattle.cpm_image.specs.declared.directory.attribute.Attribute.{Attribute}
use Rattle.cpm_image.specs.declared.directory.fault.DiskFault.{DiskFault}
use Rattle.cpm_disk.specs.Steps.{after_erasure, after_marking, after_renaming, creation, erasure, marking, reading, renaming, writing}
use Rattle.cpm_disk.specs.Calls.{Changed, Mounted, HasOutcome, PartlyChanged, PartlyWritten, Written}
use Rattle.cpm_disk.specs.Image.{Image, directory, disk_record}

-- a file is created: its entry is written, and the answer is the number of the entry
abbrev pub IsCreated : {S : Type 0} → (S → Image) → (S → ℕ) → Mounted S → Mounted S → ℕ → List ℕ → Result ℕ DiskFault → Type 0
IsCreated sectors faults old new user name result =
    let before = sectors old.device in
    let now = sectors new.device in
    HasOutcome faults old new (creation user name (directory old.kind before))
    (λ put number. (number ≡ put.0) × Changed old.kind before now (slice_set (directory old.kind before) put.0 put.1))
    (λ put. PartlyChanged old.kind before now (slice_set (directory old.kind before) put.0 put.1))
    result

-- the matching entries are erased, and the answer is how many they were
abbrev pub IsErased : {S : Type 0} → (S → Image) → (S → ℕ) → Mounted S → Mounted S → ℕ → List ℕ → Result ℕ DiskFault → Type 0
IsErased sectors faults old new user pattern result =
    let before = sectors old.device in
    let now = sectors new.device in
    HasOutcome faults old new (erasure user pattern (directory old.kind before))
    (λ count number. (number ≡ count) × Changed old.kind before now (after_erasure user pattern (directory old.kind before)))
    (λ count. PartlyChanged old.kind before now (after_erasure user pattern (directory old.kind before)))
    result

-- an attribute is set or cleared in the matching entries, and the answer is how many they were
abbrev pub IsMarked : {S : Type 0} → (S → Image) → (S → ℕ) → Mounted S → Mounted S → ℕ → List ℕ → Attribute → Bool → Result ℕ DiskFault → Type 0
IsMarked sectors faults old new user pattern attribute on result =
    let before = sectors old.device in
    let now = sectors new.device in
    HasOutcome faults old new (marking user pattern (directory old.kind before))
    (λ count number. (number ≡ count) × Changed old.kind before now (after_marking user pattern attribute on (directory old.kind before)))
    (λ count. PartlyChanged old.kind before now (after_marking user pattern attribute on (directory old.kind before)))
    result

-- the entries of a file are renamed
abbrev pub IsRenamed : {S : Type 0} → (S → Image) → (S → ℕ) → Mounted S → Mounted S → ℕ → List ℕ → List ℕ → Result (Unit {0}) DiskFault → Type 0
IsRenamed sectors faults old new user from to result =
    let before = sectors old.device in
    let now = sectors new.device in
    HasOutcome faults old new (renaming user from to (directory old.kind before))
    (λ _ _. Changed old.kind before now (after_renaming user from to (directory old.kind before)))
    (λ _. PartlyChanged old.kind before now (after_renaming user from to (directory old.kind before)))
    result

-- a record is read, and nothing changes
abbrev pub IsRecordRead : {S : Type 0} → (S → Image) → (S → ℕ) → Mounted S → Mounted S → ℕ → List ℕ → ℕ → Result (List ℕ) DiskFault → Type 0
IsRecordRead sectors faults old new user name number result =
    HasOutcome faults old new (reading old.kind user name number (directory old.kind (sectors old.device)))
    (λ place bytes. (bytes ≡ disk_record old.kind (sectors old.device) place) × (sectors new.device ≡ sectors old.device))
    (λ _. sectors new.device ≡ sectors old.device)
    result

-- a record is written
abbrev pub IsRecordWritten : {S : Type 0} → (S → Image) → (S → ℕ) → Mounted S → Mounted S → ℕ → List ℕ → ℕ → List ℕ → Result (Unit {0}) DiskFault → Type 0
IsRecordWritten sectors faults old new user name number bytes result =
    let before = sectors old.device in
    let now = sectors new.device in
    HasOutcome faults old new (writing old.kind user name number (directory old.kind before))
    (λ p _. Written old.kind before now p (number % block_records old.kind) bytes)
    (λ p. PartlyWritten old.kind before now p (number % block_records old.kind) bytes)
    result
