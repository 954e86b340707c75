-- Directories between an old one and a new one: if a device fails, each entry is as it was or as it was to be.
use Rattle.std.specs.Prelude.{◌≡◌, ◌≢◌, ◌<◌, ◌≤◌, ◌⊎◌, ℕ, List, length, slice_set, true}
use Rattle.cpm_image.specs.declared.directory.entry.Entry.{Entry}
use Rattle.cpm_image.specs.Kind.{block_count, first_block}
use Rattle.cpm_image.specs.declared.kind.DiskKind.{DiskKind}
use Rattle.cpm_disk.specs.declared.placement.Placement.{Placement}
use Rattle.cpm_image.specs.Directory.Entries.{at, block, is_extent, is_free, is_of}
use Rattle.cpm_image.specs.Directory.Rules.{IsSound}

-- each entry is that of the old directory or that of the new one
abbrev pub IsBetween : List Entry → List Entry → List Entry → Type 0
IsBetween before after mixed = (k : ℕ) → (at mixed k ≡ at before k) ⊎ (at mixed k ≡ at after k)

-- The new directory keeps the rules, and so does each directory that a failing device may leave on the way to it.
abbrev pub StaysSound : DiskKind → List Entry → List Entry → Type 0
StaysSound kind before after = (mixed : List Entry) → IsBetween before after mixed → IsSound kind mixed

-- A new entry takes the place of a free one, and the directory keeps the rules.
pub record IsGoodPut (kind : DiskKind) (entries : List Entry) (put : ℕ × Entry) : Type 0 where
  pub within : put.0 < length entries
  pub free : is_free (at entries put.0) ≡ true
  pub sound : StaysSound kind entries (slice_set entries put.0 put.1)

-- What is promised of a placement: its entry belongs to the file, and takes the place of one of that file or of a free one; its block is
-- for files and in no other entry; and the directory keeps the rules.
pub record IsKeptBy (kind : DiskKind) (user : ℕ) (name : List ℕ) (entries : List Entry) (p : Placement) : Type 0 where
  pub within : p.entry_number < length entries
  pub was : (is_of user name (at entries p.entry_number) ≡ true) ⊎ (is_free (at entries p.entry_number) ≡ true)
  pub of_file : is_of user name p.entry ≡ true
  pub block_from : first_block kind ≤ p.block
  pub block_to : p.block < block_count kind
  pub apart : (k group : ℕ) → k ≢ p.entry_number → is_extent (at entries k) ≡ true → block kind (at entries k) group ≡ p.block → ⊥
  pub sound : StaysSound kind entries (slice_set entries p.entry_number p.entry)
