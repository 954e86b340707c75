-- A block while one of its records is being written.
use Rattle.std.specs.Prelude.{◌≡◌, ◌≢◌, ◌<◌, ◌*◌, ◌+◌, ℕ, false, replicate, if◌then◌else◌}
use Rattle.cpm_image.specs.declared.format.TheConstants.{RECORD_BYTES}
use Rattle.cpm_image.specs.Kind.{block_records}
use Rattle.cpm_image.specs.declared.kind.DiskKind.{DiskKind}
use Rattle.cpm_disk.specs.declared.placement.Placement.{Placement}
use Rattle.cpm_disk.specs.Image.{Image, IsOfBlock, SameBut, disk_record}

-- the records of a block below a number are zeros, except the one that is kept
pub record Cleared (kind : DiskKind) (old new : Image) (block kept below : ℕ) : Type 0 where
  pub zeros : (j : ℕ) → j < below → j ≢ kept → disk_record kind new (block_records kind * block + j) ≡ replicate RECORD_BYTES 0
  pub rest : SameBut kind (IsOfBlock kind block) old new

-- a block before one record of it is written: the others are zeros if it is new, otherwise all are as they were
pub record Prepared (kind : DiskKind) (old new : Image) (p : Placement) (i : ℕ) : Type 0 where
  pub others : (j : ℕ) → j < block_records kind → j ≢ i → disk_record kind new (block_records kind * p.block + j) ≡ (if p.is_new then replicate RECORD_BYTES 0 else disk_record kind old (block_records kind * p.block + j))
  pub rest : SameBut kind (IsOfBlock kind p.block) old new
  pub kept : p.is_new ≡ false → new ≡ old
