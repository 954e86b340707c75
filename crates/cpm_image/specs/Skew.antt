-- The sector of each logical record. An eight inch single density disk has 77 tracks of 26 sectors, and the first two are the system's.
-- (CP/M 2.2 Alteration Guide, the disk parameter block and the sector translate table of the standard drive.)
use Rattle.std.specs.Prelude.{ℕ, ◌+◌, ◌-◌, ◌*◌, ◌/◌, ◌%◌, List, [], ◌∷◌, slice_index}
use Rattle.cpm_image.specs.declared.kind.DiskKind.{DiskKind}
use Rattle.cpm_image.specs.declared.kind.DiskKind.TheVariants.{EightInch, Megabyte}

-- for each logical record of a track, in order, the number of its sector on the track, from 1
abbrev pub translate : List ℕ
translate = 1 ∷ 7 ∷ 13 ∷ 19 ∷ 25 ∷ 5 ∷ 11 ∷ 17 ∷ 23 ∷ 3 ∷ 9 ∷ 15 ∷ 21 ∷ 2 ∷ 8 ∷ 14 ∷ 20 ∷ 26 ∷ 6 ∷ 12 ∷ 18 ∷ 24 ∷ 4 ∷ 10 ∷ 16 ∷ 22 ∷ []

-- the sector of the image with a logical record of an eight inch disk; records begin on track 2
abbrev pub sector : ℕ → ℕ
sector n = 26 * (2 + n / 26) + (slice_index translate (n % 26) - 1)

-- the same for a disk of either format: on a Megabyte disk the records are the sectors
abbrev pub sector_of : DiskKind → ℕ → ℕ
sector_of EightInch n = sector n
sector_of Megabyte n = n
