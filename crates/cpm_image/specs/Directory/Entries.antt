-- A directory entry of CP/M 2.2: 32 bytes. They are the user, eleven bytes of name and type, EX, S1, S2, RC and sixteen bytes of blocks.
-- (CP/M 2.2 Interface Guide, file control blocks; Alteration Guide, the directory.)
use Rattle.std.specs.Prelude.{ℕ, ◌+◌, ◌*◌, ◌/◌, ◌%◌, ◌==◌, Bool, ◌&&◌, ◌||◌, not, List, [], ◌∷◌, ◌++◌, take, drop, replicate, slice_index, slice_index_or, slice_set, nat_lt, nat_le, max, if◌then◌else◌, count_by}
use Rattle.std.specs.Str.{bytes_eq}
use Rattle.cpm_image.specs.declared.directory.attribute.Attribute.TheVariants.{ReadOnly, System}
use Rattle.cpm_image.specs.declared.directory.entry.TheConstants.{FREE, USERS}
use Rattle.cpm_image.specs.declared.directory.layout.TheConstants.{BLOCKS_OFFSET, ENTRY_BYTES, EX_OFFSET, EXTENT_RECORDS, NAME_OFFSET, RC_OFFSET, S1_OFFSET, S2_EXTENTS, S2_OFFSET, S2_VALUES}
use Rattle.cpm_image.specs.declared.format.TheConstants.{BLANK}
use Rattle.cpm_image.specs.declared.kind.DiskKind.{DiskKind}
use Rattle.cpm_image.specs.declared.kind.DiskKind.TheVariants.{EightInch, Megabyte}
use Rattle.cpm_image.specs.Kind.{block_records}
use Rattle.cpm_image.specs.Directory.Types.{Attribute, Entry, Pattern}
use Rattle.cpm_image.specs.Directory.Letters.{letters, name_matches, with_letters}

-- the 32 bytes of an entry
abbrev pub bytes_of : Entry → List ℕ
bytes_of e = e.user ∷ e.name ++ e.extent ∷ e.s1 ∷ e.s2 ∷ e.records ∷ e.blocks

-- the entry that 32 bytes are
abbrev pub entry_of : List ℕ → Entry
entry_of bytes = record {
  user = slice_index bytes 0;
  name = take 11 (drop NAME_OFFSET bytes);
  extent = slice_index bytes EX_OFFSET;
  s1 = slice_index bytes S1_OFFSET;
  s2 = slice_index bytes S2_OFFSET;
  records = slice_index bytes RC_OFFSET;
  blocks = drop BLOCKS_OFFSET bytes;
}

-- the entry that is 32 bytes of E5H
abbrev pub blank : Entry
blank = entry_of (replicate ENTRY_BYTES BLANK)

-- the entry with a number, or a blank one after the last
abbrev pub at : List Entry → ℕ → Entry
at entries k = slice_index_or entries k blank

-- Users 0 to 31 have extents of files. E5H is a free entry; any other byte is a foreign one, which belongs to no file.
abbrev pub is_extent : Entry → Bool
is_extent e = nat_lt e.user USERS

abbrev pub is_free : Entry → Bool
is_free e = e.user == FREE

-- whether an entry belongs to this file of this user
abbrev pub is_of : ℕ → List ℕ → Entry → Bool
is_of user name e = (e.user == user) && bytes_eq (letters e.name) name

-- The number of an extent of 128 records: EX, plus 32 times the low six bits of S2. (On an eight inch disk these are 0.)
abbrev pub extent_number : Entry → ℕ
extent_number e = S2_EXTENTS * (e.s2 % S2_VALUES) + e.extent

abbrev pub is_extent_of : ℕ → List ℕ → ℕ → Entry → Bool
is_extent_of user name extent e = is_of user name e && (extent_number e == extent)

-- The high bit of the type's first byte means read-only, that of its second byte system.
abbrev pub is_read_only : Entry → Bool
is_read_only e = nat_le 128 (slice_index e.name 8)

abbrev pub is_system : Entry → Bool
is_system e = nat_le 128 (slice_index e.name 9)

-- the number of the byte of the name that has an attribute
abbrev pub attribute_byte : Attribute → ℕ
attribute_byte ReadOnly = 8
attribute_byte System = 9

-- whether an entry belongs to a user and its name matches that of a pattern
abbrev pub is_match : ℕ → List ℕ → Entry → Bool
is_match user pattern e = (e.user == user) && name_matches pattern e.name

-- a byte of a pattern matches a byte that is not part of a name: it is equal, or `?`
abbrev pub matches_byte : ℕ → ℕ → Bool
matches_byte p b = (p == 0x3F) || (p == b)

-- the same, and EX and the low six bits of S2 also match the pattern
abbrev pub is_exact_match : ℕ → Pattern → Entry → Bool
is_exact_match user pattern e = is_match user pattern.name e && (matches_byte pattern.extent e.extent && matches_byte pattern.high (e.s2 % S2_VALUES))

-- the words in these bytes, low byte first
unfoldable pub words_of_bytes : List ℕ → List ℕ
words_of_bytes (low ∷ high ∷ bytes) = (low + 256 * high) ∷ words_of_bytes bytes
words_of_bytes _ = []

-- the block numbers in sixteen bytes: the bytes themselves, or eight words on a Megabyte disk
abbrev pub block_numbers : DiskKind → List ℕ → List ℕ
block_numbers EightInch bytes = bytes
block_numbers Megabyte bytes = words_of_bytes bytes

abbrev pub blocks_of : DiskKind → Entry → List ℕ
blocks_of kind e = block_numbers kind e.blocks

-- the block of a group of records, or 0 for none; a group has as many records as a block
abbrev pub block : DiskKind → Entry → ℕ → ℕ
block kind e group = slice_index (blocks_of kind e) group

-- the number of blocks that an entry has: its block numbers except 0
abbrev pub held_blocks : DiskKind → Entry → ℕ
held_blocks kind e = count_by (λ b. not (b == 0)) (blocks_of kind e)

-- whether the extent has record i: it is below the count, and its block is there
abbrev pub has_record : DiskKind → Entry → ℕ → Bool
has_record kind e i = nat_lt i e.records && not (block kind e (i / block_records kind) == 0)

-- the number of records that the file has up to the end of this extent
abbrev pub record_end : Entry → ℕ
record_end e = EXTENT_RECORDS * extent_number e + e.records

-- the logical record of the disk for record i of an extent whose block for it is b
abbrev pub place_in_block : DiskKind → ℕ → ℕ → ℕ
place_in_block kind b i = block_records kind * b + i % block_records kind

-- the logical record of the disk for record i of the extent, if the entry has the block for it
abbrev pub place_on_disk : DiskKind → Entry → ℕ → ℕ
place_on_disk kind e i = place_in_block kind (block kind e (i / block_records kind)) i

-- the entry of a new extent without records
abbrev pub new_extent : ℕ → List ℕ → ℕ → Entry
new_extent user name extent = record { user = user; name = name; extent = extent % S2_EXTENTS; s1 = 0; s2 = extent / S2_EXTENTS; records = 0; blocks = replicate 16 0 }

-- the sixteen bytes after the block of one group of records is set
abbrev pub with_block : DiskKind → List ℕ → ℕ → ℕ → List ℕ
with_block EightInch blocks group b = slice_set blocks group b
with_block Megabyte blocks group b = slice_set (slice_set blocks (2 * group) (b % 256)) (2 * group + 1) (b / 256)

-- the entry after record i is written to block b
abbrev pub with_record : DiskKind → Entry → ℕ → ℕ → Entry
with_record kind e i b = record e { records = max e.records (i + 1); blocks = with_block kind e.blocks (i / block_records kind) b }

-- an erased entry: only the user byte changes
abbrev pub erased : Entry → Entry
erased e = record e { user = FREE }

-- a renamed entry: only the letters of the name change
abbrev pub renamed : List ℕ → Entry → Entry
renamed name e = record e { name = with_letters e.name name }

-- a byte with its high bit set or cleared
abbrev pub with_high : Bool → ℕ → ℕ
with_high on b = if on then b % 128 + 128 else b % 128

-- an entry with an attribute set or cleared: only the high bit of one byte of the name changes
abbrev pub marked : Attribute → Bool → Entry → Entry
marked attribute on e = record e { name = slice_set e.name (attribute_byte attribute) (with_high on (slice_index e.name (attribute_byte attribute))) }
