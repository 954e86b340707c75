-- Blocks of entries that are marked one after the other.
use Rattle.std.proofs.Common.{◌≡◌, ◌<◌, ℕ, ◌+◌, ◌-◌, List, Bool, true, false, ◌||◌, ◌&&◌, ◌≤◌, zero, suc, not, cond, Some, arith, nat_eq, take, length, replicate, get_or, refl, sym, ◌∙◌, ap}
use Rattle.std.specs.List.{list_any, range_with_len, find}
use Rattle.std.proofs.lemmas.List.{get_or-replicate}
use Rattle.std.proofs.lemmas.List.Folds.{list_any_more}
use Rattle.cpm_image.specs.Directory.Types.{Entry}
use Rattle.cpm_image.specs.Kind.{block_count, first_block}
use Rattle.cpm_image.specs.declared.kind.DiskKind.{DiskKind}
use Rattle.cpm_image.specs.declared.kind.DiskKind.TheVariants.{EightInch, Megabyte}
use Rattle.cpm_image.specs.Directory.Entries.{blocks_of, is_extent}
use Rattle.cpm_image.specs.Directory.Searches.{is_taken, free_block}

-- the blocks of the first i entries are marked
pub record AreTaken (kind : DiskKind) (marks : List Bool) (entries : List Entry) (i : ℕ) : Type 0 where
  pub taken : (b : ℕ) → b < 512 → get_or marks b false ≡ is_taken kind (take i entries) b

pub none_taken : (kind : DiskKind) (entries : List Entry) → AreTaken kind (replicate 512 false) entries 0
none_taken kind entries = record { taken = λ b h. get_or-replicate {A = Bool} 512 b false false h }

or_false_right : (o : Bool) → (o || false) ≡ o
or_false_right true = refl
or_false_right false = refl

-- an entry of a file is marked
pub entry_marked : (kind : DiskKind) {old marks : List Bool} {entries : List Entry} {i : ℕ} (d : Entry) → AreTaken kind old entries i → i < length entries → is_extent (get_or entries i d) ≡ true →
    ((b : ℕ) → b < 512 → get_or marks b false ≡ (get_or old b false || list_any (λ c. nat_eq c b) (blocks_of kind (get_or entries i d)))) → AreTaken kind marks entries (i + 1)
entry_marked kind {entries = entries} {i = i} d was below extent marked = record {
  taken = λ b h.
      let more = list_any_more (λ (e : Entry). is_extent e && list_any (λ c. nat_eq c b) (blocks_of kind e)) entries i d below in
      marked b h ∙ ap (λ o. o || list_any (λ c. nat_eq c b) (blocks_of kind (get_or entries i d))) (was.taken b h) ∙ sym (more ∙ ap (λ t. is_taken kind (take i entries) b || (t && list_any (λ c. nat_eq c b) (blocks_of kind (get_or entries i d)))) extent);
}

-- an entry that belongs to no file is skipped
pub entry_passed : (kind : DiskKind) {marks : List Bool} {entries : List Entry} {i : ℕ} (d : Entry) → AreTaken kind marks entries i → i < length entries → is_extent (get_or entries i d) ≡ false → AreTaken kind marks entries (i + 1)
entry_passed kind {entries = entries} {i = i} d was below extent = record {
  taken = λ b h.
      let more = list_any_more (λ (e : Entry). is_extent e && list_any (λ c. nat_eq c b) (blocks_of kind e)) entries i d below in
      was.taken b h ∙ sym (more ∙ ap (λ t. is_taken kind (take i entries) b || (t && list_any (λ c. nat_eq c b) (blocks_of kind (get_or entries i d)))) extent ∙ or_false_right (is_taken kind (take i entries) b));
}

find-same : (f g : ℕ → Bool) (a n : ℕ) → ((k : ℕ) → a ≤ k → k < a + n → f k ≡ g k) → find f (range_with_len a n) ≡ find g (range_with_len a n)
find-same f g a zero same = refl
find-same f g a (suc n) same =
    let rest = find-same f g (a + 1) n (λ k least most. same k (omega arith) (omega arith)) in
    rw (same a (omega arith) (omega arith)) (ap (cond (g a) (Some a)) rest)

-- every block has a mark
pub marked_below : (kind : DiskKind) (k : ℕ) → k < first_block kind + (block_count kind - first_block kind) → k < 512
marked_below EightInch k most = omega arith
marked_below Megabyte k most = omega arith

-- the lowest block that is not marked is the lowest free one
pub lowest : (kind : DiskKind) (marks : List Bool) (entries : List Entry) → ((b : ℕ) → b < 512 → get_or marks b false ≡ is_taken kind entries b) → find (λ b. not (get_or marks b false)) (range_with_len (first_block kind) (block_count kind - first_block kind)) ≡ free_block kind entries
unfolding free_block
lowest kind marks entries taken = find-same (λ b. not (get_or marks b false)) (λ b. not (is_taken kind entries b)) (first_block kind) (block_count kind - first_block kind) (λ k _ most. ap not (taken k (marked_below kind k most)))
