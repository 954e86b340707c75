-- Entries that are tested one after the other.
use Rattle.std.proofs.Common.{◌≡◌, ◌<◌, ◌+◌, ℕ, List, Bool, true, false, ◌||◌, nat_eq, replicate, take, length, get_or, arith, sym, ◌∙◌, ap, subst, inl, inr}
use Rattle.cpm_image.specs.declared.kind.DiskKind.{DiskKind}
use Rattle.std.proofs.lemmas.Bool.{cases_lt, cases_order}
use Rattle.std.proofs.lemmas.List.{get_or-take, get_or_default}
use Rattle.std.specs.List.{list_any}
use Rattle.cpm_image.specs.Directory.Types.{Entry, DiskFault}
use Rattle.cpm_image.specs.Directory.Entries.{at, blank, block, blocks_of, is_extent}
use Rattle.cpm_image.specs.Directory.Rules.{AreSameExtent, IsFaultOf, IsFirstFault, IsSound, KeepsRules}
use Rattle.cpm_image.specs.Private.Marks.{AreMarks}
use Rattle.cpm_image.proofs.Names.{within_extents}
use Rattle.cpm_image.proofs.TakenBlocks.{AreTaken, entry_marked, entry_passed, none_taken}

-- each of the first i entries keeps the rules after those before it, and their blocks are marked
pub record AreJudged (kind : DiskKind) (entries : List Entry) (marks : List Bool) (i : ℕ) : Type 0 where
  pub taken : AreTaken kind marks entries i
  pub kept : (k : ℕ) → k < i → is_extent (at entries k) ≡ true → KeepsRules kind (take k entries) (at entries k)

-- the entries before a later one include each earlier one
pub at_take : (entries : List Entry) (j k : ℕ) → j < k → at (take k entries) j ≡ at entries j
at_take entries j k lt = get_or-take k entries j blank lt

pub sound : (kind : DiskKind) (entries : List Entry) → ((k : ℕ) → k < length entries → is_extent (at entries k) ≡ true → KeepsRules kind (take k entries) (at entries k)) → IsSound kind entries
sound kind entries kept =
    let keeps : (k : ℕ) → is_extent (at entries k) ≡ true → KeepsRules kind (take k entries) (at entries k) = λ k is. kept k (within_extents entries k is) is in
    let apart : (j k a b : ℕ) → j < k → is_extent (at entries j) ≡ true → is_extent (at entries k) ≡ true → 0 < block kind (at entries k) b → block kind (at entries j) a ≡ block kind (at entries k) b → ⊥ =
    λ j k a b lt first second positive same. (keeps k second).2.1 j b a (subst (λ e. is_extent e ≡ true) (sym (at_take entries j k lt)) first) positive (subst (λ e. block kind e a ≡ block kind (at entries k) b) (sym (at_take entries j k lt)) same) in
    let other : (j k : ℕ) → j < k → is_extent (at entries j) ≡ true → is_extent (at entries k) ≡ true → AreSameExtent (at entries j) (at entries k) → ⊥ =
    λ j k lt first second same. (keeps k second).3 j (subst (λ e. is_extent e ≡ true) (sym (at_take entries j k lt)) first) (subst (λ e. AreSameExtent e (at entries k)) (sym (at_take entries j k lt)) same) in
    record {
      good = λ k is. (keeps k is).0;
      blocks = λ k is. (keeps k is).1;
      once = λ j k a b first second positive same. elim (cases_order j k) [
        | inl equal ↦ (equal, (keeps j first).2.0 a b positive (same ∙ ap (λ n. block kind (at entries n) b) (sym equal)))
        | inr rest ↦ elim rest [
          | inl lt ↦ absurd (apart j k a b lt first second (omega arith) same)
          | inr gt ↦ absurd (apart k j b a gt second first positive (sym same))
        ]
      ];
      named = λ j k first second same. elim (cases_order j k) [
        | inl equal ↦ equal
        | inr rest ↦ elim rest [
          | inl lt ↦ absurd (other j k lt first second same)
          | inr gt ↦ absurd (other k j gt second first (sym same.0, sym same.1, sym same.2))
        ]
      ];
    }

pub start : (kind : DiskKind) (entries : List Entry) → AreJudged kind entries (replicate 512 false) 0
start kind entries = record { taken = none_taken kind entries; kept = λ k h. absurd (omega arith) }

kept_more : (P : ℕ → Type 0) (i : ℕ) → ((k : ℕ) → k < i → P k) → P i → (k : ℕ) → k < i + 1 → P k
kept_more P i below here k h = elim (cases_lt k i) [ inl lt ↦ below k lt | inr ge ↦ subst P (let e : i ≡ k = omega arith in e) here ]

pub entry_kept : (kind : DiskKind) {entries : List Entry} {old marks : List Bool} {i : ℕ} (d : Entry) → AreJudged kind entries old i → i < length entries → is_extent (get_or entries i d) ≡ true → KeepsRules kind (take i entries) (get_or entries i d) →
    ((b : ℕ) → b < 512 → get_or marks b false ≡ (get_or old b false || list_any (λ c. nat_eq c b) (blocks_of kind (get_or entries i d)))) → AreJudged kind entries marks (i + 1)
entry_kept kind {entries = entries} {i = i} d was below extent keeps marked = record {
  taken = entry_marked kind d was.taken below extent marked;
  kept = kept_more (λ k. is_extent (at entries k) ≡ true → KeepsRules kind (take k entries) (at entries k)) i was.kept (λ _. subst (λ e. KeepsRules kind (take i entries) e) (get_or_default entries i d blank below) keeps);
}

pub entry_skipped : (kind : DiskKind) {entries : List Entry} {marks : List Bool} {i : ℕ} (d : Entry) → AreJudged kind entries marks i → i < length entries → is_extent (get_or entries i d) ≡ false → AreJudged kind entries marks (i + 1)
entry_skipped kind {entries = entries} {i = i} d was below extent = record {
  taken = entry_passed kind d was.taken below extent;
  kept = kept_more (λ k. is_extent (at entries k) ≡ true → KeepsRules kind (take k entries) (at entries k)) i was.kept (λ is.
      let clash : true ≡ false = sym is ∙ ap is_extent (get_or_default entries i blank d below) ∙ extent in
      absurd cc);
}

pub refused : (kind : DiskKind) {entries : List Entry} {marks : List Bool} {i : ℕ} (d : Entry) (f : DiskFault) → AreJudged kind entries marks i → i < length entries → is_extent (get_or entries i d) ≡ true → IsFaultOf kind (take i entries) (get_or entries i d) f → IsFirstFault kind entries f
refused kind {entries = entries} {i = i} d f was below extent fault_of =
    let same = get_or_default entries i d blank below in
    record {
      number = i;
      within = below;
      extent = subst (λ e. is_extent e ≡ true) same extent;
      fault_of = subst (λ e. IsFaultOf kind (take i entries) e f) same fault_of;
      before = was.kept;
    }

pub marks_before : (kind : DiskKind) {entries : List Entry} {marks : List Bool} {i : ℕ} → AreJudged kind entries marks i → AreMarks kind marks (take i entries)
marks_before kind was = was.taken.taken
