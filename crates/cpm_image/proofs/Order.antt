-- Files in order, each once.
use Rattle.std.proofs.Common.{◌≡◌, ◌<◌, ℕ, zero, suc, Ordering, List, [], ◌∷◌, Bool, true, ◌&&◌, ◌==◌, length, get_or, refl, arith, sym, ◌∙◌, ap, inl, inr}
use Rattle.std.specs.Cmp.{IsEquivalence, IsTotalOrder, unsigned_ties}
use Rattle.std.specs.Cmp.Lexicographic.{slice_cmp}
use Rattle.std.specs.List.{AllByRecursion, AllPairs, dedup}
use Rattle.std.specs.List.Sorted.{IsPermutation, IsSorted, IsStrictlySortedBy}
use Rattle.std.specs.Ordering.{eq_by_cmp, is_eq, nat_cmp, ordering_then, MatchOrdering}
use Rattle.std.specs.declared.cmp.Ordering.TheVariants.{Less, Equal, Greater}
use Rattle.std.specs.Str.{bytes_eq}
use Rattle.std.proofs.lemmas.Bool.{eqb-true}
use Rattle.std.proofs.lemmas.Cmp.{nat_cmp_total, nat_list_cmp_total, on_total, then_total, ranked, and_equiv, on_equiv, nat_eq_equiv, nat_list_eq_equiv}
use Rattle.std.proofs.lemmas.List.Kept.{IsStrictlySortedBy-dedup, Contains-dedup, Contains-from_dedup}
use Rattle.std.proofs.lemmas.List.Sorted.{Contains-permutation, IsPermutation-sym}
use Rattle.std.proofs.lemmas.Map.Text.{is_eq-slice_cmp}
use Rattle.std.proofs.lemmas.Slice.Eq.{bytes_eq-Decides}
use Rattle.cpm_image.specs.declared.directory.file.File.{File}
use Rattle.cpm_image.specs.Private.Files.{AreInOrder}
use Rattle.cpm_image.specs.Directory.Searches.{ComesBefore}
use Rattle.cpm_image.proofs.Names.{both_true}

abbrev pub file_cmp : File → File → Ordering
file_cmp a b = ordering_then (nat_cmp a.user b.user) (slice_cmp nat_cmp a.name b.name)

abbrev pub file_eq : File → File → Bool
file_eq a b = (a.user == b.user) && bytes_eq a.name b.name

pub file_total : IsTotalOrder file_cmp
file_total = then_total (on_total (λ (f : File). f.user) nat_cmp_total) (on_total (λ (f : File). f.name) nat_list_cmp_total)

pub file_equivalence : IsEquivalence file_eq
file_equivalence = and_equiv (on_equiv (λ (f : File). f.user) nat_eq_equiv) (on_equiv (λ (f : File). f.name) nat_list_eq_equiv)

is_eq-ordering_then : (o p : Ordering) → is_eq (ordering_then o p) ≡ (is_eq o && is_eq p)
is_eq-ordering_then Less p = refl
is_eq-ordering_then Equal p = refl
is_eq-ordering_then Greater p = refl

pub file_ties : (a b : File) → file_eq a b ≡ eq_by_cmp file_cmp a b
file_ties a b = sym (is_eq-ordering_then (nat_cmp a.user b.user) (slice_cmp nat_cmp a.name b.name) ∙ rw (← unsigned_ties a.user b.user, is_eq-slice_cmp a.name b.name) refl)

same_file : (a b : File) → a.user ≡ b.user → a.name ≡ b.name → a ≡ b
same_file a b u n =
    let first : ◌≡◌ {A = File} a (record { user = b.user; name = a.name }) = ap (λ v. record { user = v; name = a.name }) u in
    let second : ◌≡◌ {A = File} (record { user = b.user; name = a.name }) b = ap (λ v. record { user = b.user; name = v }) n in
    first ∙ second

pub file_eq-same : (a b : File) → file_eq a b ≡ true → a ≡ b
file_eq-same a b h =
    let parts = both_true (a.user == b.user) _ h in
    same_file a b (eqb-true _ _ parts.0) ((bytes_eq-Decides a.name b.name).0 parts.1)

precedes_by : (a b : File) (o : Ordering) → o ≡ nat_cmp a.user b.user → ordering_then o (slice_cmp nat_cmp a.name b.name) ≡ Less → MatchOrdering o (a.user < b.user) (a.user ≡ b.user) (b.user < a.user) → ComesBefore a.user a.name b.user b.name
precedes_by a b Less e h lt = inl lt
precedes_by a b Equal e h same = inr (same, h)
precedes_by a b Greater e h gt = absurd (let f : Greater ≡ Less = h in cc)

pub precedes : (a b : File) → file_cmp a b ≡ Less → ComesBefore a.user a.name b.user b.name
precedes a b h = precedes_by a b (nat_cmp a.user b.user) refl h (ranked a.user b.user _ refl)

each_of : {X : Type 0} (P : X → Type 0) (xs : List X) → AllByRecursion P xs → (k : ℕ) (d : X) → k < length xs → P (get_or xs k d)
each_of P [] all k d h = absurd (omega arith)
each_of P (x ∷ xs) all zero d h = all.0
each_of P (x ∷ xs) all (suc k) d h = each_of P xs all.1 k d (omega arith)

pub pairs : {X : Type 0} (c : X → X → Ordering) (xs : List X) → IsStrictlySortedBy c xs → AllPairs (λ a b. c a b ≡ Less) xs
unfolding IsStrictlySortedBy
pairs c [] s i j d lt h = absurd (omega arith)
pairs c (x ∷ xs) s zero zero d lt h = absurd (omega arith)
pairs c (x ∷ xs) s zero (suc j) d lt h = each_of (λ y. c x y ≡ Less) xs s.0 j d (omega arith)
pairs c (x ∷ xs) s (suc i) zero d lt h = absurd (omega arith)
pairs c (x ∷ xs) s (suc i) (suc j) d lt h = pairs c xs s.1 i j d (omega arith) (omega arith)

pub arranged : (files sorted : List File) → IsPermutation files sorted → IsSorted file_cmp sorted → AreInOrder files (dedup file_eq sorted)
arranged files sorted moved rises = record {
  ordered = λ i j d lt h. precedes (get_or (dedup file_eq sorted) i d) (get_or (dedup file_eq sorted) j d) (pairs file_cmp (dedup file_eq sorted) (IsStrictlySortedBy-dedup file_total file_ties sorted rises) i j d lt h);
  every = λ f h. Contains-dedup file_equivalence file_eq-same sorted f (Contains-permutation files sorted f moved h);
  each = λ f h. Contains-permutation sorted files f (IsPermutation-sym files sorted moved) (Contains-from_dedup file_eq sorted f h);
}
