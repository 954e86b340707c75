-- The sizes of the two formats: everything that proofs need to know about them.
use Rattle.std.proofs.Common.{◌≡◌, ◌<◌, ◌≤◌, ◌+◌, ◌*◌, ◌/◌, ◌%◌, ℕ, refl, arith}
use Rattle.cpm_image.specs.Kind.{block_count, block_records, directory_records, entry_count, file_records, first_block, record_count}
use Rattle.cpm_image.specs.declared.kind.DiskKind.{DiskKind}
use Rattle.cpm_image.specs.declared.kind.DiskKind.TheVariants.{EightInch, Megabyte}
use Rattle.cpm_image.specs.Directory.Entries.{place_in_block}
use Rattle.cpm_disk.specs.Image.{IsOfBlock, IsOfDirectory}

pub of_block : (kind : DiskKind) (b i : ℕ) → i < block_records kind → IsOfBlock kind b (block_records kind * b + i)
of_block EightInch b i low = (omega arith, omega arith)
of_block Megabyte b i low = (omega arith, omega arith)

pub record_below : (kind : DiskKind) (b i : ℕ) → b < block_count kind → i < block_records kind → block_records kind * b + i < record_count kind
record_below EightInch b i small low = omega arith
record_below Megabyte b i small low = omega arith

-- a block for files has no record of the directory
pub beside_directory : (kind : DiskKind) (b n : ℕ) → first_block kind ≤ b → IsOfBlock kind b n → IsOfDirectory kind n → ⊥
beside_directory EightInch b n files of low = let (from, to) = of in omega arith
beside_directory Megabyte b n files of low = let (from, to) = of in omega arith

pub one_slot : (kind : DiskKind) (b i j : ℕ) → block_records kind * b + j ≡ block_records kind * b + i → j ≡ i
one_slot EightInch b i j same = omega arith
one_slot Megabyte b i j same = omega arith

pub same_block : (kind : DiskKind) (b c i : ℕ) → IsOfBlock kind c (place_in_block kind b i) → b ≡ c
same_block EightInch b c i of = let (from, to) = of in omega arith
same_block Megabyte b c i of = let (from, to) = of in omega arith

pub slot_below : (kind : DiskKind) (i : ℕ) → i % block_records kind < block_records kind
slot_below EightInch i = omega arith
slot_below Megabyte i = omega arith

-- the number of a record in its block follows from its number in the extent
pub slot_of : (kind : DiskKind) (number : ℕ) → number % 128 % block_records kind ≡ number % block_records kind
slot_of EightInch number = omega arith
slot_of Megabyte number = omega arith

pub same_record : (kind : DiskKind) (i number : ℕ) → i / block_records kind ≡ number % 128 / block_records kind → i % block_records kind ≡ number % block_records kind → i ≡ number % 128
same_record EightInch i number group slot = omega arith
same_record Megabyte i number group slot = omega arith

pub some_files : (kind : DiskKind) → 0 < first_block kind
some_files EightInch = omega arith
some_files Megabyte = omega arith

pub directory_within : (kind : DiskKind) (n : ℕ) → n < directory_records kind → n < record_count kind
directory_within EightInch n low = omega arith
directory_within Megabyte n low = omega arith

-- the record of a directory entry, four entries to a record
pub record_of_entry : (kind : DiskKind) (k : ℕ) → k < entry_count kind → k / 4 < directory_records kind
record_of_entry EightInch k low = omega arith
record_of_entry Megabyte k low = omega arith

pub entries_of_records : (kind : DiskKind) → 4 * directory_records kind ≡ entry_count kind
entries_of_records EightInch = refl
entries_of_records Megabyte = refl

pub number_below : (kind : DiskKind) (number : ℕ) → number < file_records kind → number / 128 < 2048
number_below EightInch number low = omega arith
number_below Megabyte number low = omega arith

pub outside_directory : (kind : DiskKind) (n : ℕ) → directory_records kind ≤ n → IsOfDirectory kind n → ⊥
outside_directory kind n from low = omega arith

pub few_entries : (kind : DiskKind) → entry_count kind ≤ 256
few_entries EightInch = omega arith
few_entries Megabyte = omega arith
