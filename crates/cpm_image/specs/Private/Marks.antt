-- Marks on blocks: a flag for each block number.
use Rattle.std.specs.Prelude.{◌≡◌, ◌<◌, ℕ, Bool, false, ◌||◌, List, nat_eq, slice_index, slice_index_or}
use Rattle.std.specs.List.{list_any}
use Rattle.cpm_image.specs.declared.kind.DiskKind.{DiskKind}
use Rattle.cpm_image.specs.Directory.Types.{Entry}
use Rattle.cpm_image.specs.Directory.Searches.{is_taken}

-- the numbers are so small that each has a flag
abbrev pub AreSmall : List ℕ → Type 0
AreSmall blocks = (a : ℕ) → slice_index blocks a < 512

-- Each block except 0 is in the list once and is not marked.
pub record AreOwn (marks : List Bool) (blocks : List ℕ) : Type 0 where
  pub free : (a : ℕ) → 0 < slice_index blocks a → slice_index_or marks (slice_index blocks a) false ≡ false
  pub once : (a b : ℕ) → 0 < slice_index blocks a → slice_index blocks a ≡ slice_index blocks b → a ≡ b

-- the old marks and those of these blocks
abbrev pub AddsMarks : List Bool → List Bool → List ℕ → Type 0
AddsMarks old new blocks =
    (b : ℕ) → b < 512 → slice_index_or new b false ≡ (slice_index_or old b false || list_any (λ c. nat_eq c b) blocks)

-- Exactly those blocks are marked that are in an entry of users 0 to 31.
abbrev pub AreMarks : DiskKind → List Bool → List Entry → Type 0
AreMarks kind marks entries = (b : ℕ) → b < 512 → slice_index_or marks b false ≡ is_taken kind entries b
