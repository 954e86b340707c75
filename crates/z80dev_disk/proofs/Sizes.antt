-- The size of a file whose first records are written.
use Rattle.std.proofs.Common.{◌≡◌, ◌<◌, ◌≤◌, ◌+◌, ◌-◌, ◌*◌, ◌/◌, ◌==◌, ◌⊎◌, ℕ, zero, suc, Bool, true, false, cond, min, max, List, [], ◌∷◌, length, map, Option, Some, None, find, option_map, refl, sym, ap, subst, ◌∙◌, inl, inr, arith, if◌then◌else◌, eqb-true, eq-eqb}
use Rattle.std.specs.Prelude.{fold, filter}
use Rattle.std.proofs.lemmas.Bool.{and_parts, and_from, cases_eq, cases_lt}
use Rattle.std.proofs.lemmas.List.Folds.{list_any_at}
use Rattle.cpm_image.specs.declared.kind.DiskKind.{DiskKind}
use Rattle.cpm_image.specs.declared.directory.entry.Entry.{Entry}
use Rattle.cpm_image.specs.declared.directory.entry.TheConstants.{USERS}
use Rattle.cpm_image.specs.Directory.Entries.{at, blank, extent_number, is_extent_of, is_of, record_end}
use Rattle.cpm_image.specs.Directory.Rules.{IsSound}
use Rattle.cpm_image.specs.Directory.Searches.{is_file, size}
use Rattle.cpm_disk.proofs.Entries.{found_at}
use Rattle.cpm_disk.proofs.Maps.{extent_found}
use Rattle.cpm_disk.specs.Files.{count_of}
use Rattle.cpm_disk.specs.Image.{Image, directory}
use Rattle.z80dev_disk.proofs.Records.{HoldsFirst}

-- the greatest of these numbers is at least the number that the search began with
from_start : (p : Entry → Bool) (f : Entry → ℕ) (xs : List Entry) (a : ℕ) → a ≤ fold max a (map f (filter p xs))
from_start p f [] a = omega arith
from_start p f (x ∷ xs) a = kept (p x) (from_start p f xs)
  where
    kept : (b : Bool) → ((c : ℕ) → c ≤ fold max c (map f (filter p xs))) → a ≤ fold max a (map f (cond b (x ∷ filter p xs) (filter p xs)))
    kept true rest = let h = rest (max a (f x)) in omega (arith, h)
    kept false rest = rest a

each_counts : (p : Entry → Bool) (f : Entry → ℕ) (xs : List Entry) (a k : ℕ) → k < length xs → p (at xs k) ≡ true → f (at xs k) ≤ fold max a (map f (filter p xs))
each_counts p f [] a k below is = absurd (omega (arith, below))
each_counts p f (x ∷ xs) a zero below is =
    let h = from_start p f xs (max a (f x)) in
    let least : f x ≤ fold max (max a (f x)) (map f (filter p xs)) = omega (arith, h) in
    subst (λ b. f x ≤ fold max a (map f (cond b (x ∷ filter p xs) (filter p xs)))) (sym is) least
each_counts p f (x ∷ xs) a (suc k) below is = kept (p x) (λ c. each_counts p f xs c k (omega (arith, below)) is)
  where
    kept : (b : Bool) → ((c : ℕ) → f (at xs k) ≤ fold max c (map f (filter p xs))) → f (at xs k) ≤ fold max a (map f (cond b (x ∷ filter p xs) (filter p xs)))
    kept true rest = rest (max a (f x))
    kept false rest = rest a

-- the greatest of these numbers is at most n if each is, and the one that the search began with
no_more : (p : Entry → Bool) (f : Entry → ℕ) (xs : List Entry) (a n : ℕ) → a ≤ n → ((k : ℕ) → k < length xs → p (at xs k) ≡ true → f (at xs k) ≤ n) → fold max a (map f (filter p xs)) ≤ n
no_more p f [] a n start each = start
no_more p f (x ∷ xs) a n start each = kept (p x) (each 0 (omega arith)) (λ c low. no_more p f xs c n low (λ k below. each (suc k) (omega (arith, below))))
  where
    kept : (b : Bool) → (b ≡ true → f x ≤ n) → ((c : ℕ) → c ≤ n → fold max c (map f (filter p xs)) ≤ n) → fold max a (map f (cond b (x ∷ filter p xs) (filter p xs))) ≤ n
    kept true first rest = rest (max a (f x)) (let h = first refl in omega (arith, h, start))
    kept false first rest = rest a start

module _ (kind : DiskKind) (image : Image) (user : ℕ) (name file : List ℕ) (n : ℕ) (low : user < USERS) (sound : IsSound kind (directory kind image)) (holds : HoldsFirst kind image user name file n) where
  abbrev pub entries : List Entry
  entries = directory kind image

  -- the entry of an extent that the file has
  entry_at : (extent c : ℕ) (o : Option Entry) → o ≡ find (is_extent_of user name extent) entries → option_map (λ e. e.records) o ≡ Some c
      → (k : ℕ) × (k < length entries) × (is_of user name (at entries k) ≡ true) × (record_end (at entries k) ≡ 128 * extent + c)
  entry_at extent c None found is = absurd cc
  entry_at extent c (Some e) found is =
      let count : e.records ≡ c = cc in
      let (k, below, is_at, passes) = found_at (is_extent_of user name extent) entries e (sym found) in
      let parts = and_parts (is_of user name e) (extent_number e == extent) passes in
      let number : extent_number e ≡ extent = eqb-true (extent_number e) extent parts.1 in
      let ends : record_end e ≡ 128 * extent + c = omega (arith, number, count) in
      (k, below, subst (λ x. is_of user name x ≡ true) is_at parts.0, subst (λ x. record_end x ≡ 128 * extent + c) is_at ends)

  -- no entry of the file has a record after the first n
  within : (k : ℕ) → k < length entries → is_of user name (at entries k) ≡ true → record_end (at entries k) ≤ n
  within k below of = go (extent_number (at entries k)) refl
    where
      counted : (x : ℕ) → extent_number (at entries k) ≡ x → count_of kind image user name x ≡ Some (at entries k).records
      counted x is = ap (option_map (λ e. e.records)) (extent_found kind entries user name x k low sound below (and_from (is_of user name (at entries k)) (extent_number (at entries k) == x) of (eq-eqb (extent_number (at entries k)) x is)))

      full : (x : ℕ) → extent_number (at entries k) ≡ x → (x ≡ 0) ⊎ (128 * x < n) → record_end (at entries k) ≤ n
      full x is which =
          let same : Some (at entries k).records ≡ Some (min 128 (n - 128 * x)) = sym (counted x is) ∙ holds.counts x which in
          let records : (at entries k).records ≡ min 128 (n - 128 * x) = cc in
          elim which [ inl first ↦ omega (arith, is, records, first) | inr less ↦ omega (arith, is, records, less) ]

      go : (x : ℕ) → extent_number (at entries k) ≡ x → record_end (at entries k) ≤ n
      go x is = elim (cases_eq x 0) as (λ _. record_end (at entries k) ≤ n) [
        | inl first ↦ full x is (inl first)
        | inr later ↦ elim (cases_lt (128 * x) n) as (λ _. record_end (at entries k) ≤ n) [
          | inl less ↦ full x is (inr less)
          | inr past ↦ (
              let some : 0 < x = elim (cases_lt 0 x) [ inl less ↦ less | inr none ↦ absurd (later (omega (arith, none))) ] in
              let same : Some (at entries k).records ≡ None = sym (counted x is) ∙ holds.none x some past in
              absurd cc)
        ]
      ]

  pub there : is_file user name entries ≡ true
  there = let (k, below, of, ends) = entry_at 0 _ _ refl (holds.counts 0 (inl refl)) in list_any_at (is_of user name) entries k blank below of

  reached : n ≤ fold max 0 (map record_end (filter (is_of user name) entries))
  reached = elim (cases_lt 0 n) [
    | inl some ↦ (
        let last = (n - 1) / 128 in
        let less : 128 * last < n = omega (arith, some) in
        let (k, below, of, ends) = entry_at last _ _ refl (holds.counts last (inr less)) in
        let most = each_counts (is_of user name) record_end entries 0 k below of in
        let all : 128 * last + min 128 (n - 128 * last) ≡ n = omega (arith, some) in
        omega (arith, most, ends, all))
    | inr none ↦ omega (arith, none)
  ]

  -- the size of the file is n
  pub size_is : size user name entries ≡ Some n
  size_is =
      let most = no_more (is_of user name) record_end entries 0 n (omega arith) within in
      let exact : fold max 0 (map record_end (filter (is_of user name) entries)) ≡ n = omega (arith, most, reached) in
      ap (λ b. if b then Some (fold max 0 (map record_end (filter (is_of user name) entries))) else None) there ∙ ap Some exact
