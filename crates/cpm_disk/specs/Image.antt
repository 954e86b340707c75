-- The image of a disk: its logical records, its directory, and what a change leaves as it was.
use Rattle.std.specs.Prelude.{◌≡◌, ◌≢◌, ◌<◌, ◌≤◌, ℕ, ◌+◌, ◌*◌, ◌/◌, ◌%◌, List, [], length, map, take, drop, slice_index_or}
use Rattle.std.specs.List.{range_with_len}
use Rattle.cpm_image.specs.Kind.{block_records, directory_records, entry_count, record_count}
use Rattle.cpm_image.specs.Skew.{sector_of}
use Rattle.cpm_image.specs.declared.kind.DiskKind.{DiskKind}
use Rattle.cpm_image.specs.declared.directory.entry.Entry.{Entry}
use Rattle.cpm_image.specs.declared.directory.layout.TheConstants.{ENTRY_BYTES, RECORD_ENTRIES}
use Rattle.cpm_image.specs.Directory.Entries.{entry_of}

-- the sectors of a device, each a list of bytes
abbrev pub Image : Type 0
Image = List (List ℕ)

-- the bytes of a logical record, on a disk of a format
abbrev pub disk_record : DiskKind → Image → ℕ → List ℕ
disk_record kind image n = slice_index_or image (sector_of kind n) []

-- The first blocks are the directory. Each of its records has four entries.
abbrev pub entry_at : DiskKind → Image → ℕ → Entry
entry_at kind image k = entry_of (take ENTRY_BYTES (drop (ENTRY_BYTES * (k % RECORD_ENTRIES)) (disk_record kind image (k / RECORD_ENTRIES))))

unfoldable pub directory : DiskKind → Image → List Entry
directory kind image = map (entry_at kind image) (range_with_len 0 (entry_count kind))

-- the records of the directory
abbrev pub IsOfDirectory : DiskKind → ℕ → Type 0
IsOfDirectory kind n = n < directory_records kind

-- the records of a block
abbrev pub IsOfBlock : DiskKind → ℕ → ℕ → Type 0
IsOfBlock kind b n = (block_records kind * b ≤ n) × (n < block_records kind * b + block_records kind)

-- a sector without a logical record: one of the system tracks, or one of the last six; only an eight inch disk has such sectors
abbrev pub HoldsNoRecord : DiskKind → ℕ → Type 0
HoldsNoRecord kind s = (n : ℕ) → n < record_count kind → sector_of kind n ≢ s

-- every sector is as it was, except those of some logical records
pub record SameBut (kind : DiskKind) (P : ℕ → Type 0) (old new : Image) : Type 0 where
  pub count : length new ≡ length old
  pub records : (n : ℕ) → n < record_count kind → (P n → ⊥) → disk_record kind new n ≡ disk_record kind old n
  pub system : (s : ℕ) → HoldsNoRecord kind s → slice_index_or new s [] ≡ slice_index_or old s []

-- one logical record was written, and nothing else changed
pub record Wrote (kind : DiskKind) (old new : Image) (number : ℕ) (bytes : List ℕ) : Type 0 where
  pub here : disk_record kind new number ≡ bytes
  pub rest : SameBut kind (λ n. n ≡ number) old new
