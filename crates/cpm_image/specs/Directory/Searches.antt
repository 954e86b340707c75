-- Searches in a directory.
use Rattle.std.specs.Prelude.{◌≡◌, ◌<◌, ℕ, ◌+◌, ◌-◌, Bool, true, ◌&&◌, not, List, Option, Some, None, map, filter, drop, max, fold, find, position, length, if◌then◌else◌, option_map, slice_index_or, nat_eq, unwrap_or, ◌⊎◌, All, Any, count_by, sum_by}
use Rattle.std.specs.List.{list_any, range_with_len}
use Rattle.std.specs.Cmp.Lexicographic.{slice_cmp}
use Rattle.std.specs.Ordering.{nat_cmp}
use Rattle.std.specs.declared.cmp.Ordering.TheVariants.{Less}
use Rattle.cpm_image.specs.declared.directory.entry.TheConstants.{USERS}
use Rattle.cpm_image.specs.Kind.{block_count, first_block}
use Rattle.cpm_image.specs.declared.kind.DiskKind.{DiskKind}
use Rattle.cpm_image.specs.Directory.Types.{Entry, Pattern, Listed, Space, Usage}
use Rattle.cpm_image.specs.Directory.Entries.{at, blocks_of, held_blocks, is_extent, is_free, is_of, is_exact_match, is_read_only, is_system, record_end}
use Rattle.cpm_image.specs.Directory.Letters.{letters}

-- whether a user has a file of this name
abbrev pub is_file : ℕ → List ℕ → List Entry → Bool
is_file user name entries = list_any (is_of user name) entries

-- A file is read-only, or a system file, if one of its entries is.
abbrev pub file_is_read_only : ℕ → List ℕ → List Entry → Bool
file_is_read_only user name entries = list_any (λ e. is_of user name e && is_read_only e) entries

abbrev pub file_is_system : ℕ → List ℕ → List Entry → Bool
file_is_system user name entries = list_any (λ e. is_of user name e && is_system e) entries

-- the number of the first entry from `from` on that matches
abbrev pub found_from : ℕ → Pattern → ℕ → List Entry → Option ℕ
found_from user pattern from entries = option_map (λ k. from + k) (position (is_exact_match user pattern) (drop from entries))

-- the number of the lowest free entry
abbrev pub free_entry : List Entry → Option ℕ
free_entry entries = position is_free entries

-- whether a block is in an entry of users 0 to 31
abbrev pub is_taken : DiskKind → List Entry → ℕ → Bool
is_taken kind entries b = list_any (λ e. is_extent e && list_any (λ c. nat_eq c b) (blocks_of kind e)) entries

-- the lowest block for files that is in no entry of users 0 to 31
unfoldable pub free_block : DiskKind → List Entry → Option ℕ
free_block kind entries = find (λ b. not (is_taken kind entries b)) (range_with_len (first_block kind) (block_count kind - first_block kind))

-- the number of records that a file has up to its last one, whether they were written or not: the greatest end of its extents
abbrev pub size : ℕ → List ℕ → List Entry → Option ℕ
size user name entries = if is_file user name entries
    then Some (fold max 0 (map record_end (filter (is_of user name) entries)))
    else None

-- the number of directory entries that a file has, and of blocks that these have
abbrev pub usage_of : DiskKind → ℕ → List ℕ → List Entry → Usage
usage_of kind user name entries = record {
  entries = count_by (is_of user name) entries;
  blocks = sum_by (held_blocks kind) (filter (is_of user name) entries);
}

abbrev pub no_usage : Usage
no_usage = record { entries = 0; blocks = 0 }

-- the number of blocks for files that are in no entry of users 0 to 31
unfoldable pub free_blocks : DiskKind → List Entry → ℕ
free_blocks kind entries = count_by (λ b. not (is_taken kind entries b)) (range_with_len (first_block kind) (block_count kind - first_block kind))

-- the number of free entries and of free blocks
abbrev pub space_of : DiskKind → List Entry → Space
space_of kind entries = record {
  entries = count_by is_free entries;
  blocks = free_blocks kind entries;
}

abbrev pub no_space : Space
no_space = record { entries = 0; blocks = 0 }

-- what a listing says about one file
abbrev pub listed_of : ℕ → List ℕ → List Entry → Listed
listed_of user name entries = record {
  user = user;
  name = name;
  records = unwrap_or (size user name entries) 0;
  read_only = file_is_read_only user name entries;
  system = file_is_system user name entries;
}

-- a file comes before another: by user, and then by name
abbrev pub ComesBefore : ℕ → List ℕ → ℕ → List ℕ → Type 0
ComesBefore user name other_user other_name = (user < other_user) ⊎ ((user ≡ other_user) × (slice_cmp nat_cmp name other_name ≡ Less))

-- The files of a directory, each once, by user and then by name.
pub record IsListing (entries : List Entry) (listed : List Listed) : Type 0 where
  pub each : All (λ l. (l.user < USERS) × (is_file l.user l.name entries ≡ true) × (l ≡ listed_of l.user l.name entries)) listed
  pub every : (k : ℕ) → is_extent (at entries k) ≡ true → Any (λ l. (l.user ≡ (at entries k).user) × (l.name ≡ letters (at entries k).name)) listed
  pub ordered : (i j : ℕ) (d : Listed) → i < j → j < length listed →
      ComesBefore (slice_index_or listed i d).user (slice_index_or listed i d).name (slice_index_or listed j d).user (slice_index_or listed j d).name
