-- An entry of a directory is the one that its 32 bytes give.
use Rattle.std.proofs.Common.{◌≡◌, ◌<◌, ◌+◌, ◌*◌, ◌/◌, ◌%◌, ℕ, Bool, true, List, ◌∷◌, Some, drop, find, if◌then◌else◌, length, take, ap, ◌∙◌, arith}
use Rattle.std.proofs.lemmas.List.{drop_more, length-append, length-drop, length-take}
use Rattle.cpm_image.specs.Kind.{entry_count}
use Rattle.cpm_image.specs.declared.kind.DiskKind.{DiskKind}
use Rattle.cpm_image.proofs.EntryBytes.{entry_of-bytes}
use Rattle.cpm_image.specs.declared.directory.entry.Entry.{Entry}
use Rattle.cpm_image.specs.Directory.Entries.{at, blank, bytes_of, entry_of}
use Rattle.cpm_disk.proofs.Places.{at_directory}
use Rattle.cpm_disk.specs.Image.{Image, directory, disk_record}

module _ (kind : DiskKind) (image : Image) (k : ℕ) (bytes : List ℕ) (below : k < entry_count kind) (are : bytes ≡ bytes_of (at (directory kind image) k)) (long : length bytes ≡ 32) where
  abbrev pub e : Entry
  e = at (directory kind image) k

  abbrev source : List ℕ
  source = take 32 (drop (32 * (k % 4)) (disk_record kind image (k / 4)))

  -- The name has eleven bytes. The name and the blocks fill exactly their fields, so with the other bytes they are 32.
  pub named : length e.name ≡ 11
  named =
      let is : e ≡ entry_of source = at_directory kind image k below in
      let name_is : e.name ≡ take 11 (drop 1 source) = ap (λ x. x.name) is in
      let blocks_are : e.blocks ≡ drop 16 source = ap (λ x. x.blocks) is in
      let all : length bytes ≡ length (e.user ∷ e.name) + length (e.extent ∷ e.s1 ∷ e.s2 ∷ e.records ∷ e.blocks) = ap length are ∙ length-append (e.user ∷ e.name) (e.extent ∷ e.s1 ∷ e.s2 ∷ e.records ∷ e.blocks) in
      omega (arith, long, all, ap length name_is, ap length blocks_are, length-take 11 (drop 1 source), length-drop 1 source, length-drop 16 source, length-take 32 (drop (32 * (k % 4)) (disk_record kind image (k / 4))))

  -- So the 32 bytes give this entry.
  pub spelled : entry_of bytes ≡ e
  spelled = ap entry_of are ∙ entry_of-bytes e.name named

-- the first entry that passes a test, if entry k passes it and none before it does
pub found_here : (p : Entry → Bool) (entries : List Entry) (k : ℕ) (e : Entry) → k < length entries → at entries k ≡ e → p e ≡ true → find p entries ≡ find p (drop k entries) → find p entries ≡ Some e
found_here p entries k e below is passes so_far =
    so_far ∙ ap (find p) (drop_more entries k blank below ∙ ap (λ x. x ∷ drop (k + 1) entries) is) ∙ ap (λ b. if b then Some e else find p (drop (k + 1) entries)) passes
