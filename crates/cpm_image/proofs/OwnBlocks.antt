-- Whether the blocks of an entry belong only to it can be seen from the marks of the entries before it.
use Rattle.std.proofs.Common.{◌≡◌, ◌<◌, ◌≤◌, ◌&&◌, ℕ, List, Bool, true, false, nat_eq, MatchBool, length, refl, arith, sym, ◌∙◌, inl, inr}
use Rattle.std.specs.List.{list_any}
use Rattle.std.proofs.lemmas.List.{get_or_past}
use Rattle.std.proofs.lemmas.Bool.{cases_lt, eq-eqb, eqb-true}
use Rattle.std.proofs.lemmas.List.Folds.{list_any_at}
use Rattle.cpm_image.specs.Directory.Types.{Entry}
use Rattle.cpm_image.specs.Kind.{block_count}
use Rattle.cpm_image.specs.declared.kind.DiskKind.{DiskKind}
use Rattle.cpm_image.specs.declared.kind.DiskKind.TheVariants.{EightInch, Megabyte}
use Rattle.cpm_image.specs.Directory.Entries.{at, blank, block, blocks_of, is_extent}
use Rattle.cpm_image.specs.Private.Marks.{AreMarks, AreOwn}
use Rattle.cpm_image.specs.Directory.Rules.{AreBlocks, HasOwnBlocks, IsBlock}
use Rattle.cpm_image.specs.Directory.Searches.{is_taken}
use Rattle.cpm_image.proofs.Elements.{where_any}
use Rattle.cpm_image.proofs.Marks.{within}
use Rattle.cpm_image.proofs.Names.{both_true, true_both, within_extents}

-- a block in an extent is taken
pub taken_at : (kind : DiskKind) (entries : List Entry) (k a b : ℕ) → is_extent (at entries k) ≡ true → 0 < b → block kind (at entries k) a ≡ b → is_taken kind entries b ≡ true
taken_at kind entries k a b extent positive here =
    let inside = within (blocks_of kind (at entries k)) a (omega arith) in
    let stands = list_any_at (λ c. nat_eq c b) (blocks_of kind (at entries k)) a 0 inside (eq-eqb _ _ here) in
    list_any_at (λ (e : Entry). is_extent e && list_any (λ c. nat_eq c b) (blocks_of kind e)) entries k blank (within_extents entries k extent) (true_both _ _ extent stands)

-- and a taken block is in an extent
pub where_taken : (kind : DiskKind) (entries : List Entry) (b : ℕ) → is_taken kind entries b ≡ true → (k : ℕ) × (a : ℕ) × (is_extent (at entries k) ≡ true) × (block kind (at entries k) a ≡ b)
where_taken kind entries b taken =
    let place = where_any (λ (e : Entry). is_extent e && list_any (λ c. nat_eq c b) (blocks_of kind e)) entries blank taken in
    let parts = both_true (is_extent (at entries place.0)) _ place.2 in
    let byte = where_any (λ c. nat_eq c b) (blocks_of kind (at entries place.0)) 0 parts.1 in
    (place.0, byte.0, parts.0, eqb-true _ _ byte.2)

count_small : (kind : DiskKind) → block_count kind ≤ 512
count_small EightInch = omega arith
count_small Megabyte = omega arith

pub block_below : (kind : DiskKind) (e : Entry) (a : ℕ) → AreBlocks kind e → block kind e a < 512
block_below kind e a are = elim (are a) [ inl zero_is ↦ omega arith | inr bounds ↦ (let small = count_small kind in omega (arith, bounds.1)) ]

own_blocks_of : (kind : DiskKind) (marks : List Bool) (before : List Entry) (e : Entry) → AreMarks kind marks before → AreBlocks kind e → AreOwn marks (blocks_of kind e) → HasOwnBlocks kind before e
own_blocks_of kind marks before e are blocks own = (
  own.once,
  λ k a b extent positive here.
      let free = own.free a positive in
      let taken = taken_at kind before k b (block kind e a) extent positive here in
      let clash : true ≡ false = sym taken ∙ sym (are (block kind e a) (block_below kind e a blocks)) ∙ free in
      absurd cc,
)

is_free : (t : Bool) → (t ≡ true → ⊥) → t ≡ false
is_free true h = absurd (h refl)
is_free false h = refl

are_own_of : (kind : DiskKind) (marks : List Bool) (before : List Entry) (e : Entry) → AreMarks kind marks before → AreBlocks kind e → HasOwnBlocks kind before e → AreOwn marks (blocks_of kind e)
are_own_of kind marks before e are blocks own = record {
  free = λ a positive. are (block kind e a) (block_below kind e a blocks) ∙ is_free _ (λ taken.
      let place = where_taken kind before (block kind e a) taken in
      own.1 place.0 a place.1 place.2 positive place.3);
  once = own.0;
}

own_by : (A B : Type 0) (b : Bool) → MatchBool b A (A → ⊥) → (A → B) → (B → A) → MatchBool b B (B → ⊥)
own_by A B true was to from = to was
own_by A B false was to from = λ h. was (from h)

pub own_blocks : (kind : DiskKind) (marks : List Bool) (before : List Entry) (e : Entry) (b : Bool) → AreMarks kind marks before → AreBlocks kind e → MatchBool b (AreOwn marks (blocks_of kind e)) (AreOwn marks (blocks_of kind e) → ⊥) → MatchBool b (HasOwnBlocks kind before e) (HasOwnBlocks kind before e → ⊥)
own_blocks kind marks before e b are blocks was = own_by _ _ b was (own_blocks_of kind marks before e are blocks) (are_own_of kind marks before e are blocks)

-- each block number has been tested
pub all_judged : (kind : DiskKind) (e : Entry) (n : ℕ) → length (blocks_of kind e) ≤ n → ((i : ℕ) → i < n → IsBlock kind (block kind e i)) → AreBlocks kind e
all_judged kind e n all each i = elim (cases_lt i n) [
  | inl lt ↦ each i lt
  | inr ge ↦ inl (get_or_past (blocks_of kind e) i 0 (omega arith))
]
