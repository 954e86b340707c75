-- What the calls of a mounted disk answer, and what they leave.
use Rattle.std.specs.Prelude.{◌≡◌, ◌≢◌, ◌<◌, ◌⊎◌, ◌*◌, ◌+◌, ℕ, Bool, true, false, List, Result, Ok, Err, replicate, slice_set, ⊤, if◌then◌else◌}
use Rattle.cpm_image.specs.Device.{HasRisen}
use Rattle.cpm_image.specs.declared.format.TheConstants.{RECORD_BYTES}
use Rattle.cpm_image.specs.Kind.{block_records}
use Rattle.cpm_image.specs.declared.kind.DiskKind.{DiskKind}
use Rattle.cpm_image.specs.declared.directory.entry.Entry.{Entry}
use Rattle.cpm_image.specs.declared.directory.fault.DiskFault.{DiskFault}
use Rattle.cpm_image.specs.declared.directory.fault.DiskFault.TheVariants as fault
use Rattle.cpm_disk.specs.declared.placement.Placement.{Placement}
use Rattle.cpm_disk.specs.Kept.{IsBetween}
use Rattle.cpm_disk.specs.Image.{Image, IsOfBlock, IsOfDirectory, SameBut, directory, disk_record}

-- A mounted disk: its device, its format, and whether the device has failed since it was mounted.
pub record Mounted (S : Type 0) : Type 0 where
  pub device : S
  pub kind : DiskKind
  pub failed : Bool

-- The answer of a call. `expected` is what the definition of the operation says: what is to be done, or the first refusal. `finished`
-- holds of that and the answer after the call is done, and `stopped` holds if the device failed in it. A call succeeds only if the device
-- did not fail in it. Any other refusal changes nothing, and no call changes the format.
abbrev pub HasOutcome : {S X Y : Type 0} → (S → ℕ) → Mounted S → Mounted S → Result X DiskFault → (X → Y → Type 0) → (X → Type 0) → Result Y DiskFault → Type 0
HasOutcome {X = X} faults old new expected finished stopped (Ok y) =
    (old.failed ≡ false) × (new.failed ≡ false) × (new.kind ≡ old.kind) × (faults new.device ≡ faults old.device) × (x : X) × (expected ≡ Ok x) × finished x y
HasOutcome {X = X} faults old new expected finished stopped (Err fault.Fault) =
    (old.failed ≡ false) × (new.failed ≡ true) × (new.kind ≡ old.kind) × HasRisen (faults old.device) (faults new.device) × (x : X) × (expected ≡ Ok x) × stopped x
HasOutcome faults old new expected finished stopped (Err fault.Failed) = (old.failed ≡ true) × (new ≡ old)
HasOutcome faults old new expected finished stopped (Err refusal) = (old.failed ≡ false) × (expected ≡ Err refusal) × (new ≡ old)

-- A fault that a call can answer: the device failed in it or before it, or the operation refuses.
abbrev pub FailsOr : (DiskFault → Type 0) → DiskFault → Type 0
FailsOr refuses fault.Fault = ⊤
FailsOr refuses fault.Failed = ⊤
FailsOr refuses refusal = refuses refusal

-- the directory changed, and nothing else
pub record Changed (kind : DiskKind) (old new : Image) (entries : List Entry) : Type 0 where
  pub entries_are : directory kind new ≡ entries
  pub rest : SameBut kind (IsOfDirectory kind) old new

-- the call was stopped: each directory entry is as it was or as it was to be, and nothing else changed
pub record PartlyChanged (kind : DiskKind) (old new : Image) (entries : List Entry) : Type 0 where
  pub between : IsBetween (directory kind old) entries (directory kind new)
  pub rest : SameBut kind (IsOfDirectory kind) old new

-- Record i of a block was written. The other records of a new block are zeros.
pub record HasWritten (kind : DiskKind) (old new : Image) (block i : ℕ) (is_new : Bool) (bytes : List ℕ) : Type 0 where
  pub here : disk_record kind new (block_records kind * block + i) ≡ bytes
  pub beside : (j : ℕ) → j < block_records kind → j ≢ i → disk_record kind new (block_records kind * block + j) ≡ (if is_new then replicate RECORD_BYTES 0 else disk_record kind old (block_records kind * block + j))
  pub rest : SameBut kind (λ n. IsOfDirectory kind n ⊎ IsOfBlock kind block n) old new

-- a record was written, and then its entry
pub record Written (kind : DiskKind) (old new : Image) (p : Placement) (i : ℕ) (bytes : List ℕ) : Type 0 where
  pub data_are : HasWritten kind old new p.block i p.is_new bytes
  pub entries_are : directory kind new ≡ slice_set (directory kind old) p.entry_number p.entry

-- The write was stopped. Either the record is written, and its entry is as it was or as it was to be; or the directory is as it was, and
-- if the block is not new, at most this record of it is written.
abbrev pub PartlyWritten : DiskKind → Image → Image → Placement → ℕ → List ℕ → Type 0
PartlyWritten kind old new p i bytes =
    (HasWritten kind old new p.block i p.is_new bytes × IsBetween (directory kind old) (slice_set (directory kind old) p.entry_number p.entry) (directory kind new))
    ⊎ ((directory kind new ≡ directory kind old) × SameBut kind (λ n. IsOfBlock kind p.block n) old new
    × (p.is_new ≡ false → (j : ℕ) → j < block_records kind → (disk_record kind new (block_records kind * p.block + j) ≡ disk_record kind old (block_records kind * p.block + j)) ⊎ ((j ≡ i) × (disk_record kind new (block_records kind * p.block + j) ≡ bytes))))
