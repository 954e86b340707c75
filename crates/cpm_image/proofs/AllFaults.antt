-- All entries that break a rule, tested one after the other.
use Rattle.std.proofs.Common.{◌≡◌, ◌⊎◌, ◌<◌, ◌≤◌, ◌+◌, ℕ, List, [], ◌∷◌, ◌++◌, Bool, true, false, ◌||◌, nat_eq, replicate, take, length, get_or, length-append, refl, arith, sym, ◌∙◌, ap, subst, inl, inr}
use Rattle.std.proofs.lemmas.Bool.{cases_eq, cases_lt}
use Rattle.std.proofs.lemmas.List.{get_or_append_left, get_or_at, get_or_default}
use Rattle.std.proofs.lemmas.List.Elements.{All-nil, All-push, All-weaker}
use Rattle.std.specs.List.{All, AllPairs, Any, list_any}
use Rattle.cpm_image.specs.declared.kind.DiskKind.{DiskKind}
use Rattle.cpm_image.specs.Directory.Types.{Broken, Entry}
use Rattle.cpm_image.specs.Directory.Entries.{at, blank, blocks_of, is_extent}
use Rattle.cpm_image.specs.Private.Marks.{AreMarks}
use Rattle.cpm_image.specs.Directory.Rules.{AreBroken, IsBroken, IsFaultOf, KeepsRules}
use Rattle.cpm_image.proofs.Names.{within_extents}
use Rattle.cpm_image.proofs.TakenBlocks.{AreTaken, entry_marked, entry_passed, none_taken}

-- an entry of users 0 to 31 keeps the rules, or is in the list
abbrev IsKeptOrListed : DiskKind → List Entry → List Broken → ℕ → Type 0
IsKeptOrListed kind entries broken k = is_extent (at entries k) ≡ true → KeepsRules kind (take k entries) (at entries k) ⊎ Any (λ b. b.number ≡ k) broken

-- the first i entries are tested, and the blocks of all of them are marked
pub record AreListed (kind : DiskKind) (entries : List Entry) (marks : List Bool) (broken : List Broken) (i : ℕ) : Type 0 where
  pub taken : AreTaken kind marks entries i
  pub each : All (IsBroken kind entries) broken
  pub below : All (λ b. b.number < i) broken
  pub every : (k : ℕ) → k < i → is_extent (at entries k) ≡ true → KeepsRules kind (take k entries) (at entries k) ⊎ Any (λ b. b.number ≡ k) broken
  pub ordered : AllPairs (λ a b. a.number < b.number) broken

pub start : (kind : DiskKind) (entries : List Entry) (broken : List Broken) → broken ≡ [] → AreListed kind entries (replicate 512 false) broken 0
start kind entries broken none = rw none record {
  taken = none_taken kind entries;
  each = All-nil (IsBroken kind entries);
  below = All-nil (λ b. b.number < 0);
  every = λ k h. absurd (omega arith);
  ordered = λ i j d lt h. absurd (omega arith);
}

pub marks_before : (kind : DiskKind) {entries : List Entry} {marks : List Bool} {broken : List Broken} {i : ℕ} → AreListed kind entries marks broken i → AreMarks kind marks (take i entries)
marks_before kind was = was.taken.taken

every_more : (P : ℕ → Type 0) (i : ℕ) → ((k : ℕ) → k < i → P k) → P i → (k : ℕ) → k < i + 1 → P k
every_more P i below here k h = elim (cases_lt k i) [ inl lt ↦ below k lt | inr ge ↦ subst P (let e : i ≡ k = omega arith in e) here ]

-- all numbers below i are also below i + 1
below_more : (broken : List Broken) (i : ℕ) → All (λ b. b.number < i) broken → All (λ b. b.number < i + 1) broken
below_more broken i below = All-weaker (λ b. b.number < i) (λ b. b.number < i + 1) (λ b h. omega arith) broken below

-- an entry that keeps the rules
pub entry_kept : (kind : DiskKind) {entries : List Entry} {old marks : List Bool} {broken : List Broken} {i : ℕ} (d : Entry) → AreListed kind entries old broken i → i < length entries → is_extent (get_or entries i d) ≡ true → KeepsRules kind (take i entries) (get_or entries i d) →
    ((b : ℕ) → b < 512 → get_or marks b false ≡ (get_or old b false || list_any (λ c. nat_eq c b) (blocks_of kind (get_or entries i d)))) → AreListed kind entries marks broken (i + 1)
entry_kept kind {entries = entries} {broken = broken} {i = i} d was within extent keeps marked = record {
  taken = entry_marked kind d was.taken within extent marked;
  each = was.each;
  below = below_more broken i was.below;
  every = every_more (IsKeptOrListed kind entries broken) i was.every (λ _. inl (subst (λ e. KeepsRules kind (take i entries) e) (get_or_default entries i d blank within) keeps));
  ordered = was.ordered;
}

-- an entry that belongs to no file
pub entry_skipped : (kind : DiskKind) {entries : List Entry} {marks : List Bool} {broken : List Broken} {i : ℕ} (d : Entry) → AreListed kind entries marks broken i → i < length entries → is_extent (get_or entries i d) ≡ false → AreListed kind entries marks broken (i + 1)
entry_skipped kind {entries = entries} {broken = broken} {i = i} d was within extent = record {
  taken = entry_passed kind d was.taken within extent;
  each = was.each;
  below = below_more broken i was.below;
  every = every_more (IsKeptOrListed kind entries broken) i was.every (λ is.
      let clash : true ≡ false = sym is ∙ ap is_extent (get_or_default entries i blank d within) ∙ extent in
      absurd cc);
  ordered = was.ordered;
}

-- an element of a list is also in a longer one
any_more : (P : Broken → Type 0) (xs : List Broken) (x : Broken) → Any P xs → Any P (xs ++ x ∷ [])
any_more P xs x (k, y, low, is, holds) = (k, y, (let long = length-append xs (x ∷ []) in omega (arith, low)), get_or_append_left xs (x ∷ []) y k low ∙ is, holds)

any_last : (P : Broken → Type 0) (xs : List Broken) (x : Broken) → P x → Any P (xs ++ x ∷ [])
any_last P xs x holds = (length xs, x, (let long = length-append xs (x ∷ []) in omega arith), get_or_at xs x [] x (length xs) refl, holds)

still_listed : (kind : DiskKind) (entries : List Entry) (broken : List Broken) (b : Broken) (k : ℕ) → IsKeptOrListed kind entries broken k → IsKeptOrListed kind entries (broken ++ b ∷ []) k
still_listed kind entries broken b k was is = elim (was is) [
  | inl keeps ↦ inl keeps
  | inr listed ↦ inr (any_more (λ x. x.number ≡ k) broken b listed)
]

-- the list stays in order if the greatest number is added at the end
ordered_more : (broken : List Broken) (b : Broken) (i : ℕ) → b.number ≡ i → All (λ x. x.number < i) broken → AllPairs (λ x y. x.number < y.number) broken → AllPairs (λ x y. x.number < y.number) (broken ++ b ∷ [])
ordered_more broken b i is below ordered j k d lt h =
    let long = length-append broken (b ∷ []) in
    let first : get_or (broken ++ b ∷ []) j d ≡ get_or broken j d = get_or_append_left broken (b ∷ []) d j (omega arith) in
    elim (cases_eq k (length broken)) as (λ _. (get_or (broken ++ b ∷ []) j d).number < (get_or (broken ++ b ∷ []) k d).number) [
      | inl last ↦
          let second : get_or (broken ++ b ∷ []) k d ≡ b = get_or_at broken b [] d k (sym last) in
          rw (first, second) (let lower = below j d (omega arith) in omega arith)
      | inr among ↦
          let second : get_or (broken ++ b ∷ []) k d ≡ get_or broken k d = get_or_append_left broken (b ∷ []) d k (omega arith) in
          rw (first, second) (ordered j k d lt (omega arith))
    ]

-- an entry that breaks a rule is added to the list
pub entry_listed : (kind : DiskKind) {entries : List Entry} {old marks : List Bool} {broken : List Broken} {i : ℕ} (d : Entry) (b : Broken) → AreListed kind entries old broken i → i < length entries → is_extent (get_or entries i d) ≡ true → b.number ≡ i → b.entry ≡ get_or entries i d → IsFaultOf kind (take i entries) (get_or entries i d) b.fault →
    ((n : ℕ) → n < 512 → get_or marks n false ≡ (get_or old n false || list_any (λ c. nat_eq c n) (blocks_of kind (get_or entries i d)))) → AreListed kind entries marks (broken ++ b ∷ []) (i + 1)
entry_listed kind {entries = entries} {broken = broken} {i = i} d b was within extent number_is entry_is fault_of marked = record {
  taken = entry_marked kind d was.taken within extent marked;
  each = All-push (IsBroken kind entries) broken b was.each (record {
    within = omega arith;
    entry = entry_is ∙ get_or_default entries i d blank within ∙ ap (at entries) (sym number_is);
    extent = subst (λ e. is_extent e ≡ true) (sym entry_is) extent;
    fault_of = subst (λ k. IsFaultOf kind (take k entries) b.entry b.fault) (sym number_is) (subst (λ e. IsFaultOf kind (take i entries) e b.fault) (sym entry_is) fault_of);
  });
  below = All-push (λ x. x.number < i + 1) broken b (below_more broken i was.below) (omega arith);
  every = every_more (IsKeptOrListed kind entries (broken ++ b ∷ [])) i (λ k lt. still_listed kind entries broken b k (was.every k lt)) (λ _. inr (any_last (λ x. x.number ≡ i) broken b number_is));
  ordered = ordered_more broken b i number_is was.below was.ordered;
}

pub finished : (kind : DiskKind) (entries : List Entry) (marks : List Bool) (broken : List Broken) (i : ℕ) → length entries ≤ i → AreListed kind entries marks broken i → AreBroken kind entries broken
finished kind entries marks broken i all was = record {
  each = was.each;
  every = λ k is. was.every k (let within = within_extents entries k is in omega arith) is;
  ordered = was.ordered;
}
