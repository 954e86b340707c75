-- Counting entries and blocks.
use Rattle.std.proofs.Common.{◌≡◌, ◌<◌, ◌≤◌, ℕ, zero, suc, ◌+◌, ◌-◌, List, [], ◌∷◌, Bool, true, false, cond, not, take, length, get_or, refl, sym, ◌∙◌, ap, arith}
use Rattle.std.specs.List.{count_by, filter, range_with_len, sum_by}
use Rattle.std.proofs.lemmas.List.Elements.{filter_more}
use Rattle.std.proofs.lemmas.List.Sums.{sum_by-append, sum_by-cons}
use Rattle.cpm_image.specs.Kind.{block_count, entry_blocks, first_block}
use Rattle.cpm_image.specs.declared.kind.DiskKind.{DiskKind}
use Rattle.cpm_image.specs.declared.kind.DiskKind.TheVariants.{EightInch, Megabyte}
use Rattle.cpm_image.specs.Directory.Types.{Entry}
use Rattle.cpm_image.specs.Directory.Searches.{free_blocks, is_taken}
use Rattle.cpm_image.proofs.TakenBlocks.{marked_below}

pub groups_most : (kind : DiskKind) → entry_blocks kind ≤ 16
groups_most EightInch = omega arith
groups_most Megabyte = omega arith

picked : (f : Entry → ℕ) (x : Entry) (b : Bool) → sum_by f (cond b (x ∷ []) []) ≡ cond b (f x) 0
picked f x true = omega arith
picked f x false = refl

-- one more entry, among those that pass a test
pub sum_by-filter_more : (p : Entry → Bool) (f : Entry → ℕ) (xs : List Entry) (i : ℕ) (d : Entry) → i < length xs → sum_by f (filter p (take (i + 1) xs)) ≡ sum_by f (filter p (take i xs)) + cond (p (get_or xs i d)) (f (get_or xs i d)) 0
sum_by-filter_more p f xs i d below =
    ap (sum_by f) (filter_more p xs i d below)
    ∙ sum_by-append f (filter p (take i xs)) (cond (p (get_or xs i d)) (get_or xs i d ∷ []) [])
    ∙ ap (λ n. sum_by f (filter p (take i xs)) + n) (picked f (get_or xs i d) (p (get_or xs i d)))

count_by-same : (f g : ℕ → Bool) (a n : ℕ) → ((k : ℕ) → a ≤ k → k < a + n → f k ≡ g k) → count_by f (range_with_len a n) ≡ count_by g (range_with_len a n)
count_by-same f g a zero same = refl
count_by-same f g a (suc n) same =
    let here = same a (omega arith) (omega arith) in
    let rest = count_by-same f g (a + 1) n (λ k least most. same k (omega arith) (omega arith)) in
    sum_by-cons (λ x. cond (f x) 1 0) a (range_with_len (a + 1) n) ∙ ap (λ b. cond b 1 0 + count_by f (range_with_len (a + 1) n)) here
    ∙ ap (λ m. cond (g a) 1 0 + m) rest ∙ sym (sum_by-cons (λ x. cond (g x) 1 0) a (range_with_len (a + 1) n))

-- the blocks without a mark are exactly the free ones
pub free_counted : (kind : DiskKind) (marks : List Bool) (entries : List Entry) → ((b : ℕ) → b < 512 → get_or marks b false ≡ is_taken kind entries b) → count_by (λ b. not (get_or marks b false)) (range_with_len (first_block kind) (block_count kind - first_block kind)) ≡ free_blocks kind entries
unfolding free_blocks
free_counted kind marks entries taken = count_by-same (λ b. not (get_or marks b false)) (λ b. not (is_taken kind entries b)) (first_block kind) (block_count kind - first_block kind) (λ k _ most. ap not (taken k (marked_below kind k most)))
