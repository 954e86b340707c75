-- The formats of a disk, each with its sizes.
use Rattle.std.specs.Prelude.{ℕ, ◌≡◌, ◌⊎◌}
use Rattle.cpm_image.specs.declared.format.TheConstants.{RECORD_COUNT, SECTOR_COUNT}
use Rattle.cpm_image.specs.declared.kind.DiskKind.{DiskKind}
use Rattle.cpm_image.specs.declared.kind.DiskKind.TheVariants.{EightInch, Megabyte}

-- the number of sectors in an image
abbrev pub sector_count : DiskKind → ℕ
sector_count EightInch = SECTOR_COUNT
sector_count Megabyte = 8192

-- the number of records in a block
abbrev pub block_records : DiskKind → ℕ
block_records EightInch = 8
block_records Megabyte = 16

-- the number of blocks; they are numbered from 0
abbrev pub block_count : DiskKind → ℕ
block_count EightInch = 243
block_count Megabyte = 512

-- the number of logical records, which are those of the blocks
abbrev pub record_count : DiskKind → ℕ
record_count EightInch = RECORD_COUNT
record_count Megabyte = 8192

-- the first block that a file can have; those before it are the directory
abbrev pub first_block : DiskKind → ℕ
first_block EightInch = 2
first_block Megabyte = 4

-- the number of records in the directory, four entries each
abbrev pub directory_records : DiskKind → ℕ
directory_records EightInch = 16
directory_records Megabyte = 64

-- the number of entries in the directory
abbrev pub entry_count : DiskKind → ℕ
entry_count EightInch = 64
entry_count Megabyte = 256

-- the number of block numbers in an entry, one for each block of an extent's 128 records
abbrev pub entry_blocks : DiskKind → ℕ
entry_blocks EightInch = 16
entry_blocks Megabyte = 8

-- how many values a block number can have: on an eight inch disk it is a byte, on a Megabyte disk a word
abbrev pub number_limit : DiskKind → ℕ
number_limit EightInch = 256
number_limit Megabyte = 65536

-- the most records that a file can have: 4,096 for each value of S2
abbrev pub file_records : DiskKind → ℕ
file_records EightInch = 4096
file_records Megabyte = 65536

-- the greatest value of S2's low six bits
abbrev pub last_high : DiskKind → ℕ
last_high EightInch = 0
last_high Megabyte = 15

-- a number of sectors that a disk of some format has
abbrev pub IsDiskSize : ℕ → Type 0
IsDiskSize n = (n ≡ sector_count EightInch) ⊎ (n ≡ sector_count Megabyte)
